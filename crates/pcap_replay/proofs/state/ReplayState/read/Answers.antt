use Rattle.std.proofs.Common.{◌≡◌, ◌+◌, ◌-◌, refl, pos, nat_lt, true, if◌then◌else◌, sym, ap, subst, ◌∙◌, arith}
use Rattle.std.proofs.lemmas.Bool.Decides.{nat_tests}
use Rattle.pcap_flows.specs.declared.import.clock.CaptureClock.{CaptureClock}
use Rattle.studio_session.specs.Fault.{time_at}
use Rattle.studio_engine.specs.Session.{turned}
use Rattle.pcap_replay.specs.Replay.{HasReplayed, Stops}
use Rattle.pcap_replay.proofs.CaseLemmas.{err_then, ok_then}
use Rattle.pcap_flows.specs.Clock.{clock_with}
use Rattle.std.specs.Int.{div_ceil}
use Rattle.pcap_replay.proofs.CauseLemmas.{turn_reading}
use Rattle.pcap_replay.proofs.EventLemmas.{first_read}
use Rattle.pcap_replay.proofs.state.ReplayState.read.Goals as goal

-- a step that is too long is a fault before its reading is taken
pub returns-then-step-rule-clause-fault : goal.returns-then-step-rule-clause-fault
returns-then-step-rule-clause-fault g c = λ studio events written begun r. record {
  events = events;
  first = first_read studio.open_at c.args.rule.from events c.args.self.now.clock.reading (clock_with c.args.self.now.clock c.args.time).reading;
  at = record { datagrams = r.datagrams; session = r.session; idle = r.idle; open_yet = r.open_yet; counted = r.counted; wrote = r.wrote; told = r.told };
  reason = tt;
}

pub returns-clause-ok : goal.returns-clause-ok
returns-clause-ok g c =
    let clock = c.args.self.now.clock in
    let now = clock_with clock c.args.time in
    let earlier : c.reading-earlier.result ≡ clock.reading = c.reading-earlier.ensures in
    let reading : c.reading-reading.result ≡ now.reading = c.reading-reading.ensures ∙ ap (λ (k : CaptureClock). k.reading) c.read.ensures in
    let goes = c.if-reading-earlier.false in
    let less : nat_lt clock.reading now.reading ≡ true = grind (arith, nat_tests, earlier, reading, goes) in
    let last = g.W.Write.contents c.turn.new.writer in
    ok_then c.turn.result _ _ (λ ok studio events written begun r.
    let heard = g.L.ReplayObserver.heard begun c.turn.new.observer in
    let before = time_at studio.open_at events in
    subst (λ b. HasReplayed studio (if b then turned before (pos (c.args.rule.from + now.reading)) events else events) written c.turn.new.self last heard) (sym less)
    (subst (λ n. HasReplayed studio (turned before (pos (c.args.rule.from + n)) events) written c.turn.new.self last heard) reading
    (ok studio events written begun (record { datagrams = r.datagrams; session = r.session; idle = r.idle; open_yet = r.open_yet; counted = r.counted; wrote = r.wrote; told = r.told })))) c.turn.ensures.ok

pub returns-clause-fault : goal.returns-clause-fault
returns-clause-fault g c =
    let clock = c.args.self.now.clock in
    let now = clock_with clock c.args.time in
    let earlier : c.reading-earlier.result ≡ clock.reading = c.reading-earlier.ensures in
    let reading : c.reading-reading.result ≡ now.reading = c.reading-reading.ensures ∙ ap (λ (k : CaptureClock). k.reading) c.read.ensures in
    let goes = c.if-reading-earlier.false in
    let less : nat_lt clock.reading now.reading ≡ true = grind (arith, nat_tests, earlier, reading, goes) in
    let last = g.W.Write.contents c.turn.new.writer in
    err_then c.turn.result _ _ (λ fault stops studio events written begun r.
    let heard = g.L.ReplayObserver.heard begun c.turn.new.observer in
    let before = time_at studio.open_at events in
    subst (λ b. Stops studio (if b then turned before (pos (c.args.rule.from + now.reading)) events else events) written c.turn.new.self last heard fault) (sym less)
    (subst (λ n. Stops studio (turned before (pos (c.args.rule.from + n)) events) written c.turn.new.self last heard fault) reading
    (stops studio events written begun (record { datagrams = r.datagrams; session = r.session; idle = r.idle; open_yet = r.open_yet; counted = r.counted; wrote = r.wrote; told = r.told })))) c.turn.ensures.fault

-- its fault has the rule's place, and the length of the step
pub returns-then-step-rule-clause-jump : goal.returns-then-step-rule-clause-jump
returns-then-step-rule-clause-jump g c =
    let clock = c.args.self.now.clock in
    let now = clock_with clock c.args.time in
    let earlier : c.reading-earlier.result ≡ clock.reading = c.reading-earlier.ensures in
    let reading : c.reading-reading.result ≡ now.reading = c.reading-reading.ensures ∙ ap (λ (k : CaptureClock). k.reading) c.read.ensures in
    let far = c.if-step-rule.true in (
      refl,
      record {
        long = grind (arith, nat_tests, earlier, reading, far);
        rounded = c.div_ceil.ensures ∙ ap (λ n. div_ceil (n - c.reading-earlier.result) 48000) reading ∙ ap (λ n. div_ceil (now.reading - n) 48000) earlier;
      },
    )

pub returns-clause-jump : goal.returns-clause-jump
returns-clause-jump g c =
    err_then c.turn.result _ _ (λ fault is. turn_reading c.args.rule c.args.self.now.clock (clock_with c.args.self.now.clock c.args.time) fault is) c.turn.ensures.of_turn
