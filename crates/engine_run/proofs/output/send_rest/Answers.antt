use Rattle.std.proofs.lemmas.Grind.{elements}
use Rattle.std.proofs.Common.{◌≡◌, ◌≤◌, ◌++◌, length, refl, sym, ap, subst, ◌∙◌, arith}
use Rattle.mix_packets.specs.OutSpec.{datagram_length}
use Rattle.studio_io.proofs.SumLemmas.{sums-answer}
use Rattle.engine_run.proofs.SendLemmas.{sent_more, sent_none}
use Rattle.engine_run.proofs.output.send_rest.Goals as goal

pub loop-len-init : goal.loop-len-init
loop-len-init g c = record {
  closed = refl;
  space = refl;
  short = subst (λ n. n ≤ 1452) (c.datagram_len-short.ensures.value ∙ ap datagram_length c.output.ensures) c.datagram_len-short.ensures.short;
  sent = λ studio events datagrams s. sent_none studio c.args.engine.now events datagrams (g.K.Sink.handed c.args.sink.now) c.args.counts.now.blocks s;
  sums = λ first h. h;
}

pub loop-len-preserved : goal.loop-len-preserved
loop-len-preserved g c =
    let inv = c.loop-len.invariant in
    let same : length c.drain.new.out ≡ length c.loop-len.out = c.drain.auto.out in
    let len : c.in-Some.len ≡ datagram_length c.loop-len.engine.mixer.packer.spec = rw c.in-Some.is at c.drain.ensures.len in
    let short = inv.short in
    let long = inv.space in
    let within : c.in-Some.len ≤ length c.loop-len.out = omega (arith, len, short, long) in
    let gives = rw c.in-Some.is at c.drain.ensures.some in
    record {
      closed = c.drain.ensures.closed ∙ inv.closed;
      space = same ∙ inv.space;
      short = subst (λ n. n ≤ 1452) (ap datagram_length (sym c.drain.ensures.output)) inv.short;
      sent = λ studio events datagrams s.
          let before = inv.sent studio events datagrams s in
          sent_more studio c.loop-len.engine c.drain.new.self events events datagrams
          (g.K.Sink.handed c.args.sink.now) (g.K.Sink.handed c.loop-len.sink) (g.K.Sink.handed c.send_block-answer.new.self) c.args.counts.now.blocks c.loop-len.counts.blocks c.add.new.self.blocks
          c.loop-len.out c.drain.new.out c.in-Some.len same within before
          (gives studio events (datagrams ++ before.more) before.stands)
          c.send_block-answer.ensures.handed c.add.ensures.blocks;
      sums = λ first h. sums-answer c.loop-len.counts c.add.new.self c.send_block-answer.result c.add.ensures.blocks c.add.ensures.sent_a c.add.ensures.sent_b _ _ c.send_block-answer.ensures.answered first (inv.sums first h);
    }

pub returns-clause-sent : goal.returns-clause-sent
returns-clause-sent g c = λ studio events datagrams s.
    let before = c.loop-len.invariant.sent studio events datagrams s in
    record { more = before.more; stands = c.drain.ensures.none c.in_default.is studio events (datagrams ++ before.more) before.stands; count = before.count; handed = before.handed }

pub slice_bounds-send_block-end : goal.slice_bounds-send_block-end
slice_bounds-send_block-end c = grind (arith, elements)

pub returns-clause-sums : goal.returns-clause-sums
returns-clause-sums g c = c.loop-len.invariant.sums
