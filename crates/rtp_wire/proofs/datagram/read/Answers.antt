use Rattle.std.proofs.lemmas.Grind.{elements, pieces}
use Rattle.std.proofs.Common.{◌≡◌, ◌-◌, length, take, drop, refl, ap, ◌∙◌, arith, Some}
use Rattle.std.specs.Result.{result_ok}
use Rattle.rtp_wire.specs.Datagram.{head_at, payload_at, padding_count}
use Rattle.rtp_wire.proofs.DatagramLemmas.{head_at-read, IsDatagram-same, IsDatagram-from_whole, IsWhole}
use Rattle.rtp_wire.proofs.datagram.read.Goals as goal

pub returns-clause-datagram : goal.returns-clause-datagram
returns-clause-datagram c =
    let d = c.args.d.now in
    let found_begin : c.begin_of_payload.result ≡ Some c.in_ok-begin.begin = c.ok_or.ensures.ok_part ∙ ap result_ok c.in_ok-begin.was in
    let found_end : c.end_of_payload.result ≡ Some c.in_ok-end.end = c.ok_or-2.ensures.ok_part ∙ ap result_ok c.in_ok-end.was in
    let is_begin = rw found_begin at c.begin_of_payload.ensures.begin in
    let is_end = rw found_end at c.end_of_payload.ensures.end in
    let fits = rw found_begin at c.begin_of_payload.ensures.fits in
    let good = rw found_end at c.end_of_payload.ensures.good in
    let head = head_at-read d _ _ _ (omega arith) c.read_u16.ensures c.read_u32.ensures c.read_u32-2.ensures in
    let whole : IsWhole d = record {
      header = omega arith;
      version = c.if-d-ne2.false;
      sources = omega (arith, c.from.ensures);
      extension = fits.0 refl;
      padding = good.0 refl;
    } in
    let payload : take (c.in_ok-end.end - c.in_ok-begin.begin) (drop c.in_ok-begin.begin d) ≡ payload_at d =
    ap (λ n. take (n - c.in_ok-begin.begin) (drop c.in_ok-begin.begin d)) is_end
    ∙ ap (λ n. take (length d - padding_count d - n) (drop n d)) is_begin in
    IsDatagram-same d (head_at d) _ (payload_at d) _ head payload (IsDatagram-from_whole d (λ i. omega (arith, c.type_inv.d i)) whole)

pub returns-clause-head : goal.returns-clause-head
returns-clause-head c = head_at-read c.args.d.now _ _ _ (omega arith) c.read_u16.ensures c.read_u32.ensures c.read_u32-2.ensures

pub slice_bounds-result-count : goal.slice_bounds-result-count
slice_bounds-result-count c = search (pieces, arith)

pub slice_bounds-result-end : goal.slice_bounds-result-end
slice_bounds-result-end c = grind (arith, elements)
