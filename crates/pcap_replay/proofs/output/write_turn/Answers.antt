use Rattle.std.proofs.Common.{◌≡◌, ◌≤◌, ◌++◌, ◌∙◌, inl, Err, length, refl, ap, arith, rules, to_z, of_z, w64}
use Rattle.std.proofs.lemmas.Int.{to_z-of_z}
use Rattle.path_merge.specs.Clock.{clock_fault_of}
use Rattle.mix_packets.specs.OutSpec.{datagram_length}
use Rattle.studio_engine.specs.Session.{turned}
use Rattle.studio_engine.proofs.EngineLemmas.{turned_same}
use Rattle.pcap_replay.proofs.CaseLemmas.{some_is}
use Rattle.pcap_replay.proofs.LineLemmas.{breaks_more, gives_last, gives_more, gives_none, goes_twice, not_refused, other_is, turned_twice}
use Rattle.pcap_replay.proofs.output.write_turn.Goals as goal

pub rounds-init : goal.rounds-init
rounds-init g c = record {
  space = refl;
  output = refl;
  closed = refl;
  time = inl refl;
  stands = λ studio events datagrams begun s. gives_none studio _ events _ datagrams _ _ _ (turned_same c.args.engine.now.time c.args.engine.now.time events refl) s;
}

pub rounds-preserved : goal.rounds-preserved
rounds-preserved g c =
    let inv = c.rounds.invariant in
    let first = c.args.engine.now.time in
    let at = c.rounds.engine.time in
    let then = c.turn.new.self.time in
    let now = to_z w64 (of_z w64 c.args.now) in
    let len : c.in-Some.len ≡ datagram_length c.args.engine.now.mixer.packer.spec = some_is c.in-Ok.given c.in-Some.len _ c.in-Some.is c.in-Ok.ensures.len ∙ ap datagram_length inv.output in
    let short = c.requires.short in
    let same : length c.turn.new.out ≡ length c.rounds.out = c.turn.auto.out in
    let long = same ∙ inv.space in
    let within : c.in-Some.len ≤ length c.rounds.out = omega (arith, len, short, long, same) in
    record {
      space = long;
      output = c.turn.ensures.output ∙ inv.output;
      closed = c.turn.ensures.closed ∙ inv.closed;
      time = goes_twice first at then now inv.time c.in-Ok.ensures.time;
      stands = λ studio events datagrams begun s.
          let r = inv.stands studio events datagrams begun s in
          gives_more studio c.rounds.engine c.turn.new.self _ _ _ datagrams _ _ _ _ _ _ c.rounds.out c.turn.new.out _ _ _ c.in-Some.len
          (turned_twice first at then now events inv.time c.in-Ok.ensures.time) same within r
          (some_is c.in-Ok.given c.in-Some.len _ c.in-Some.is c.in-Ok.ensures.some studio (turned first at events) (datagrams ++ r.more) r.stands) (c.output.ensures.heard begun) c.in_ok-write_datagram-in-Some.ensures.ok;
    }

pub returns-in_err-write_datagram-in-Some-clause-fault : goal.returns-in_err-write_datagram-in-Some-clause-fault
returns-in_err-write_datagram-in-Some-clause-fault g c =
    let inv = c.rounds.invariant in
    let first = c.args.engine.now.time in
    let at = c.rounds.engine.time in
    let then = c.turn.new.self.time in
    let now = to_z w64 (of_z w64 c.args.now) in
    let len : c.in-Some.len ≡ datagram_length c.args.engine.now.mixer.packer.spec = some_is c.in-Ok.given c.in-Some.len _ c.in-Some.is c.in-Ok.ensures.len ∙ ap datagram_length inv.output in
    let short = c.requires.short in
    let same : length c.turn.new.out ≡ length c.rounds.out = c.turn.auto.out in
    let long = same ∙ inv.space in
    let within : c.in-Some.len ≤ length c.rounds.out = omega (arith, len, short, long, same) in
    let is : c.from_residual.result ≡ Err c.in_err-write_datagram-in-Some.field-0.0 = search rules in
    rw is (λ studio events datagrams begun s fine.
    let r = inv.stands studio events datagrams begun s in
    breaks_more studio c.rounds.engine c.turn.new.self _ _ _ datagrams _ _ _ _ _ c.rounds.out c.turn.new.out _ _ _ c.in-Some.len
    (turned_twice first at then now events inv.time c.in-Ok.ensures.time) same within r
    (some_is c.in-Ok.given c.in-Some.len _ c.in-Some.is c.in-Ok.ensures.some studio (turned first at events) (datagrams ++ r.more) r.stands) (c.output.ensures.heard begun) c.in_err-write_datagram-in-Some.ensures.fault)

pub returns-in_err-write_datagram-in-Some-clause-time : goal.returns-in_err-write_datagram-in-Some-clause-time
returns-in_err-write_datagram-in-Some-clause-time g c =
    let first = c.args.engine.now.time in
    let at = c.rounds.engine.time in
    let then = c.turn.new.self.time in
    let now = to_z w64 (of_z w64 c.args.now) in
    other_is then first now c.args.now (to_z-of_z w64 c.args.now c.ranges.now) (goes_twice first at then now c.rounds.invariant.time c.in-Ok.ensures.time)

pub returns-in-None-clause-ok : goal.returns-in-None-clause-ok
returns-in-None-clause-ok g c = λ studio events datagrams begun s fine.
    let inv = c.rounds.invariant in
    let first = c.args.engine.now.time in
    let at = c.rounds.engine.time in
    let then = c.turn.new.self.time in
    let now = to_z w64 (of_z w64 c.args.now) in
    let r = inv.stands studio events datagrams begun s in
    let there = c.in-Ok.ensures.there c.in-None.is studio (turned first at events) (datagrams ++ r.more) r.stands in
    let ready = c.in-Ok.ensures.none c.in-None.is studio (turned first at events) (datagrams ++ r.more) r.stands in
    gives_last studio c.rounds.engine c.turn.new.self _ _ _ datagrams _ _ _ _ _ _
    (turned_twice first at then now events inv.time c.in-Ok.ensures.time ∙ ap (λ t. turned first t events) (there.1 ∙ to_z-of_z w64 c.args.now c.ranges.now)) r ready.stands

pub returns-in-None-clause-idle : goal.returns-in-None-clause-idle
returns-in-None-clause-idle g c = λ studio events datagrams s fine.
    let r = c.rounds.invariant.stands studio events datagrams c.args.observer.now s in
    (c.in-Ok.ensures.there c.in-None.is studio (turned c.args.engine.now.time c.rounds.engine.time events) (datagrams ++ r.more) r.stands).0

pub returns-in-None-clause-time : goal.returns-in-None-clause-time
returns-in-None-clause-time g c =
    let first = c.args.engine.now.time in
    let at = c.rounds.engine.time in
    let then = c.turn.new.self.time in
    let now = to_z w64 (of_z w64 c.args.now) in
    other_is then first now c.args.now (to_z-of_z w64 c.args.now c.ranges.now) (goes_twice first at then now c.rounds.invariant.time c.in-Ok.ensures.time)

pub returns-in_default-clause-fault : goal.returns-in_default-clause-fault
returns-in_default-clause-fault g c = λ studio events datagrams begun s fine.
    let inv = c.rounds.invariant in
    let first = c.args.engine.now.time in
    let at = c.rounds.engine.time in
    let closed = c.rounds.engine.closed in
    let now = to_z w64 (of_z w64 c.args.now) in
    absurd (not_refused first at now closed c.in_default.field-0 inv.time
    (ap (λ t. clock_fault_of first closed t) (to_z-of_z w64 c.args.now c.ranges.now) ∙ ap (λ b. clock_fault_of first b c.args.now) inv.closed ∙ fine) c.in_default.ensures.fault)
