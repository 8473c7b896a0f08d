use Rattle.std.proofs.Common.{◌≡◌, ◌≤◌, ◌++◌, length, refl, ap, ◌∙◌, arith}
use Rattle.mix_packets.specs.OutSpec.{datagram_length}
use Rattle.example_callers.proofs.EngineLemmas.{sent_more, sent_none}
use Rattle.example_callers.proofs.engine.send_rest.Goals as goal

pub loop-len-init : goal.loop-len-init
loop-len-init g c = record {
  closed = refl;
  output = refl;
  space = refl;
  sent = λ studio events datagrams s. sent_none studio c.args.engine.now events datagrams (g.K.Sink.handed c.args.sink.now) s;
}

pub loop-len-preserved : goal.loop-len-preserved
loop-len-preserved g c =
    let inv = c.loop-len.invariant in
    let same : length c.drain.new.out ≡ length c.loop-len.out = c.drain.auto.out in
    let len : c.in-Some.len ≡ datagram_length c.loop-len.engine.mixer.packer.spec = rw c.in-Some.is at c.drain.ensures.len in
    let is : c.in-Some.len ≡ datagram_length c.args.engine.now.mixer.packer.spec = len ∙ ap datagram_length inv.output in
    let space = c.requires.space in
    let long = inv.space in
    let within : c.in-Some.len ≤ length c.loop-len.out = omega (arith, is, space, long) in
    let gives = rw c.in-Some.is at c.drain.ensures.some in
    record {
      closed = c.drain.ensures.closed ∙ inv.closed;
      output = c.drain.ensures.output ∙ inv.output;
      space = same ∙ inv.space;
      sent = λ studio events datagrams s.
          let before = inv.sent studio events datagrams s in
          sent_more studio c.loop-len.engine c.drain.new.self events events datagrams
          (g.K.Sink.handed c.args.sink.now) (g.K.Sink.handed c.loop-len.sink) (g.K.Sink.handed c.send.new.self) c.loop-len.out c.drain.new.out c.in-Some.len same within before
          (gives studio events (datagrams ++ before.more) before.stands)
          c.send.ensures.handed;
    }

pub returns-clause-sent : goal.returns-clause-sent
returns-clause-sent g c = λ studio events datagrams s.
    let before = c.loop-len.invariant.sent studio events datagrams s in
    record { more = before.more; stands = c.drain.ensures.none c.in_default.is studio events (datagrams ++ before.more) before.stands; handed = before.handed }
