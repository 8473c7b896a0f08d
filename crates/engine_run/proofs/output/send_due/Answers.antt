use Rattle.std.proofs.lemmas.Grind.{elements}
use Rattle.std.proofs.Common.{◌≡◌, ◌≤◌, inl, ◌++◌, length, refl, sym, ap, subst, ◌∙◌, arith, w64, to_z, of_z}
use Rattle.std.proofs.lemmas.Int.{to_z-of_z}
use Rattle.mix_packets.specs.OutSpec.{datagram_length}
use Rattle.studio_engine.specs.Session.{Gives, HasGivenReady, turned}
use Rattle.studio_engine.proofs.EngineLemmas.{turned_same}
use Rattle.engine_run.specs.Output.{HasSent}
use Rattle.studio_io.proofs.SumLemmas.{sums-answer}
use Rattle.engine_run.proofs.SendLemmas.{sent_more, sent_none, time_twice, turned_twice}
use Rattle.engine_run.proofs.output.send_due.Goals as goal

pub loop-len-init : goal.loop-len-init
loop-len-init g c = record {
  time = inl refl;
  space = refl;
  short = subst (λ n. n ≤ 1452) (c.datagram_len-short.ensures.value ∙ ap datagram_length c.output.ensures) c.datagram_len-short.ensures.short;
  sent = λ studio events datagrams s.
      let handed = g.K.Sink.handed c.args.sink.now in
      let count = c.args.counts.now.blocks in
      subst (λ l. HasSent studio c.args.engine.now l datagrams handed handed count count) (turned_same c.args.engine.now.time c.args.engine.now.time events refl)
      (sent_none studio c.args.engine.now events datagrams handed count s);
  sums = λ first h. h;
}

pub loop-len-preserved : goal.loop-len-preserved
loop-len-preserved g c =
    let inv = c.loop-len.invariant in
    let now = to_z w64 (of_z w64 c.args.now) in
    let first = c.args.engine.now.time in
    let mid = c.loop-len.engine.time in
    let last = c.turn.new.self.time in
    let same : length c.turn.new.out ≡ length c.loop-len.out = c.turn.auto.out in
    let len : c.in-Some.len ≡ datagram_length c.loop-len.engine.mixer.packer.spec = rw c.in-Some.is at c.in_ok-len.ensures.len in
    let short = inv.short in
    let long = inv.space in
    let within : c.in-Some.len ≤ length c.loop-len.out = omega (arith, len, short, long) in
    let gives = rw c.in-Some.is at c.in_ok-len.ensures.some in
    record {
      time = time_twice now first mid last inv.time c.in_ok-len.ensures.time;
      space = same ∙ inv.space;
      short = subst (λ n. n ≤ 1452) (ap datagram_length (sym c.turn.ensures.output)) inv.short;
      sent = λ studio events datagrams s.
          let before = inv.sent studio events datagrams s in
          sent_more studio c.loop-len.engine c.turn.new.self (turned first mid events) (turned first last events) datagrams
          (g.K.Sink.handed c.args.sink.now) (g.K.Sink.handed c.loop-len.sink) (g.K.Sink.handed c.send_block-answer.new.self) c.args.counts.now.blocks c.loop-len.counts.blocks c.add.new.self.blocks
          c.loop-len.out c.turn.new.out c.in-Some.len same within before
          (subst (λ l. Gives studio c.turn.new.self l (datagrams ++ before.more) c.loop-len.out c.turn.new.out c.in-Some.len) (turned_twice now first mid last events inv.time c.in_ok-len.ensures.time)
          (gives studio (turned first mid events) (datagrams ++ before.more) before.stands))
          c.send_block-answer.ensures.handed c.add.ensures.blocks;
      sums = λ first h. sums-answer c.loop-len.counts c.add.new.self c.send_block-answer.result c.add.ensures.blocks c.add.ensures.sent_a c.add.ensures.sent_b _ _ c.send_block-answer.ensures.answered first (inv.sums first h);
    }

pub returns-clause-sent : goal.returns-clause-sent
returns-clause-sent g c = λ studio events datagrams s.
    let inv = c.loop-len.invariant in
    let now = to_z w64 (of_z w64 c.args.now) in
    let first = c.args.engine.now.time in
    let mid = c.loop-len.engine.time in
    let last = c.turn.new.self.time in
    let before = inv.sent studio events datagrams s in
    let there = c.in_ok-len.ensures.there c.in_default.is studio (turned first mid events) (datagrams ++ before.more) before.stands in
    let ready : HasGivenReady studio c.turn.new.self (turned first c.args.now events) (datagrams ++ before.more) =
    subst (λ l. HasGivenReady studio c.turn.new.self l (datagrams ++ before.more))
    (turned_twice now first mid last events inv.time c.in_ok-len.ensures.time ∙ ap (λ t. turned first t events) (there.1 ∙ to_z-of_z w64 c.args.now c.ranges.now))
    (c.in_ok-len.ensures.none c.in_default.is studio (turned first mid events) (datagrams ++ before.more) before.stands) in
    record { more = before.more; stands = ready.stands; count = before.count; handed = before.handed }

pub returns-clause-there : goal.returns-clause-there
returns-clause-there g c = λ studio events datagrams s.
    let before = c.loop-len.invariant.sent studio events datagrams s in
    let there = c.in_ok-len.ensures.there c.in_default.is studio (turned c.args.engine.now.time c.loop-len.engine.time events) (datagrams ++ before.more) before.stands in
    there.1 ∙ to_z-of_z w64 c.args.now c.ranges.now

pub slice_bounds-out-end : goal.slice_bounds-out-end
slice_bounds-out-end c = grind (arith, elements)

pub slice_bounds-send_block-end : goal.slice_bounds-send_block-end
slice_bounds-send_block-end c = grind (arith, elements)

pub loop-len-smaller : goal.loop-len-smaller
loop-len-smaller c = grind (arith, elements)

pub returns-clause-sums : goal.returns-clause-sums
returns-clause-sums g c = c.loop-len.invariant.sums

pub returns-in_err-len-clause-sums : goal.returns-in_err-len-clause-sums
returns-in_err-len-clause-sums g c = c.loop-len.invariant.sums
