use Rattle.std.proofs.Common.{◌≡◌, ◌≤◌, inl, inr, ◌++◌, length, refl, ap, subst, ◌∙◌, arith, w64, to_z, of_z}
use Rattle.std.proofs.lemmas.Int.{to_z-of_z}
use Rattle.mix_packets.specs.OutSpec.{datagram_length}
use Rattle.studio_engine.specs.Session.{Gives, HasGivenReady, turned}
use Rattle.studio_engine.proofs.EngineLemmas.{turned_same}
use Rattle.example_callers.specs.Engine.{HasSent}
use Rattle.example_callers.proofs.EngineLemmas.{fine_first, sent_more, sent_none, time_twice, turned_twice}
use Rattle.example_callers.proofs.engine.send_due.Goals as goal

pub loop-len-init : goal.loop-len-init
loop-len-init g c = record {
  time = inl refl;
  closed = refl;
  first = inl (refl, refl);
  output = refl;
  space = refl;
  sent = λ studio events datagrams s.
      subst (λ l. HasSent studio c.args.engine.now l datagrams (g.K.Sink.handed c.args.sink.now) (g.K.Sink.handed c.args.sink.now)) (turned_same c.args.engine.now.time c.args.engine.now.time events refl)
      (sent_none studio c.args.engine.now events datagrams (g.K.Sink.handed c.args.sink.now) s);
}

pub loop-len-preserved : goal.loop-len-preserved
loop-len-preserved g c =
    let inv = c.loop-len.invariant in
    let now = to_z w64 (of_z w64 c.args.now) in
    let first = c.args.engine.now.time in
    let mid = c.loop-len.engine.time in
    let last = c.turn.new.self.time in
    let same : length c.turn.new.out ≡ length c.loop-len.out = c.turn.auto.out in
    let len : c.in-Some.len ≡ datagram_length c.loop-len.engine.mixer.packer.spec = rw c.in-Some.is at c.in_ok-len.ensures.len in
    let is : c.in-Some.len ≡ datagram_length c.args.engine.now.mixer.packer.spec = len ∙ ap datagram_length inv.output in
    let space = c.requires.space in
    let long = inv.space in
    let within : c.in-Some.len ≤ length c.loop-len.out = omega (arith, is, space, long) in
    let gives = rw c.in-Some.is at c.in_ok-len.ensures.some in
    record {
      time = time_twice now first mid last inv.time c.in_ok-len.ensures.time;
      closed = c.turn.ensures.closed ∙ inv.closed;
      first = inr (fine_first now c.args.engine.now c.loop-len.engine (c.loop-len.sink ≡ c.args.sink.now) inv.first c.in_ok-len.ensures.fine);
      output = c.turn.ensures.output ∙ inv.output;
      space = same ∙ inv.space;
      sent = λ studio events datagrams s.
          let before = inv.sent studio events datagrams s in
          sent_more studio c.loop-len.engine c.turn.new.self (turned first mid events) (turned first last events) datagrams
          (g.K.Sink.handed c.args.sink.now) (g.K.Sink.handed c.loop-len.sink) (g.K.Sink.handed c.send.new.self) c.loop-len.out c.turn.new.out c.in-Some.len same within before
          (subst (λ l. Gives studio c.turn.new.self l (datagrams ++ before.more) c.loop-len.out c.turn.new.out c.in-Some.len) (turned_twice now first mid last events inv.time c.in_ok-len.ensures.time)
          (gives studio (turned first mid events) (datagrams ++ before.more) before.stands))
          c.send.ensures.handed;
    }

pub returns-clause-sent : goal.returns-clause-sent
returns-clause-sent g c = λ studio events datagrams s.
    let inv = c.loop-len.invariant in
    let now = to_z w64 (of_z w64 c.args.now) in
    let first = c.args.engine.now.time in
    let mid = c.loop-len.engine.time in
    let last = c.turn.new.self.time in
    let before = inv.sent studio events datagrams s in
    let there = c.in_ok-len.ensures.there c.in_default.is studio (turned first mid events) (datagrams ++ before.more) before.stands in
    let ready : HasGivenReady studio c.turn.new.self (turned first c.args.now events) (datagrams ++ before.more) =
    subst (λ l. HasGivenReady studio c.turn.new.self l (datagrams ++ before.more))
    (turned_twice now first mid last events inv.time c.in_ok-len.ensures.time ∙ ap (λ t. turned first t events) (there.1 ∙ to_z-of_z w64 c.args.now c.ranges.now))
    (c.in_ok-len.ensures.none c.in_default.is studio (turned first mid events) (datagrams ++ before.more) before.stands) in
    record { sent = record { more = before.more; stands = ready.stands; handed = before.handed }; none = ready.none }

pub returns-clause-there : goal.returns-clause-there
returns-clause-there g c = λ studio events datagrams s.
    let before = c.loop-len.invariant.sent studio events datagrams s in
    let there = c.in_ok-len.ensures.there c.in_default.is studio (turned c.args.engine.now.time c.loop-len.engine.time events) (datagrams ++ before.more) before.stands in
    (there.0, there.1 ∙ to_z-of_z w64 c.args.now c.ranges.now)
