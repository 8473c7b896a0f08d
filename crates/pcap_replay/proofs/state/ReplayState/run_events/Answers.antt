use Rattle.std.proofs.Common.{◌≡◌, Err, drop, sym, ap, subst, ◌∙◌, rules}
use Rattle.pcap_file.specs.ReadBuffer.{octets_of}
use Rattle.pcap_replay.specs.Routing.{plan_view}
use Rattle.pcap_replay.specs.Record.{closing_with, place_with}
use Rattle.pcap_replay.specs.Replay.{IsReplaying}
use Rattle.pcap_replay.specs.declared.fault.ReplayFault.TheVariants.{Capture}
use Rattle.pcap_replay.proofs.CaseLemmas.{some_maps, told}
use Rattle.pcap_replay.proofs.ReplayLemmas.{long_reason, replaying_read, stops_behind}
use Rattle.pcap_replay.proofs.state.ReplayState.run_events.Goals as goal

pub returns-in_err-has_next-clause-fault : goal.returns-in_err-has_next-clause-fault
returns-in_err-has_next-clause-fault g c =
    let fault = c.in_err-has_next.field-0.0 in
    told _ (Capture fault) c.from_residual.result c.from_residual.ensures.1
    (λ studio first written begun r.
    let now = c.parts.invariant studio first written begun r in
    stops_behind studio (plan_view c.args.plan.now) first written c.parts.self c.parts.parts (octets_of c.parts.window) c.parts.window.ended (g.R.Read.remaining c.parts.reader) (g.W.Write.contents c.parts.writer) (g.L.ReplayObserver.heard begun c.parts.observer) c.parts.closing c.parts.closing_place (Capture fault) now
    (λ file _. long_reason file now.entries fault c.in_err-has_next.ensures.fault) (λ changed events. tt) (λ changed events replayed. replayed) tt)

pub returns-then-not-branch-clause-ok : goal.returns-then-not-branch-clause-ok
returns-then-not-branch-clause-ok g c = λ studio first written begun r.
    let now = c.parts.invariant studio first written begun r in
    record {
      entries = now.entries;
      told = some_maps first _ _ (λ file told. c.in_ok-has_next.ensures.end (search rules) file now.entries told) now.told;
      taken = now.taken;
      closes = now.closes;
      placed = now.placed;
    }

pub returns-in_err-len-clause-fault : goal.returns-in_err-len-clause-fault
returns-in_err-len-clause-fault g c =
    let fault = c.in_err-len.field-0.0 in
    let is : c.from_residual-in_err-len.result ≡ Err fault = search rules in
    rw is (λ studio first written begun r.
    let now = c.parts.invariant studio first written begun r in
    c.in_err-len.ensures.fault studio first written begun _ c.parts.closing c.parts.closing_place (replaying_read studio (plan_view c.args.plan.now) first written c.parts.self c.parts.parts _ _ _ _ _ (g.R.Read.remaining c.has_next.new.reader) _ _ c.parts.closing c.parts.closing_place c.in_ok-has_next.ensures.returned now))

pub parts-preserved : goal.parts-preserved
parts-preserved g c = λ studio first written begun r.
    let now = c.parts.invariant studio first written begun r in
    let left = g.R.Read.remaining c.has_next.new.reader in
    let then = g.W.Write.contents c.take_next.new.writer in
    let heard = g.L.ReplayObserver.heard begun c.take_next.new.observer in
    let next = c.in_ok-len.ensures.ok studio first written begun left c.parts.closing c.parts.closing_place (replaying_read studio (plan_view c.args.plan.now) first written c.parts.self c.parts.parts _ _ _ _ _ left _ _ c.parts.closing c.parts.closing_place c.in_ok-has_next.ensures.returned now) in
    let window = c.has_next.new.window in
    let passed = c.consume.new.self in
    let placed : c.place_of_close-closing_place.result ≡ place_with c.parts.closing c.parts.closing_place c.parts.parts.place = c.place_of_close-closing_place.ensures ∙ ap (place_with c.parts.closing c.parts.closing_place) c.place-place.ensures in
    subst (λ n. IsReplaying studio (plan_view c.args.plan.now) first written c.take_next.new.self c.take_next.new.parts (octets_of passed) passed.ended left then heard c.first_close-closing.result n) (sym placed)
    (subst (λ o. IsReplaying studio (plan_view c.args.plan.now) first written c.take_next.new.self c.take_next.new.parts (octets_of passed) passed.ended left then heard o (place_with c.parts.closing c.parts.closing_place c.parts.parts.place)) (sym c.first_close-closing.ensures)
    (subst (λ h. IsReplaying studio (plan_view c.args.plan.now) first written c.take_next.new.self c.take_next.new.parts h passed.ended left then heard (closing_with c.parts.closing c.in_ok-len.mark) (place_with c.parts.closing c.parts.closing_place c.parts.parts.place)) (sym c.consume.ensures.octets)
    (subst (λ e. IsReplaying studio (plan_view c.args.plan.now) first written c.take_next.new.self c.take_next.new.parts (drop c.in_ok-len.len (octets_of window)) e left then heard (closing_with c.parts.closing c.in_ok-len.mark) (place_with c.parts.closing c.parts.closing_place c.parts.parts.place))
    (sym c.consume.ensures.ended) next)))

pub returns-clause-fault : goal.returns-clause-fault
returns-clause-fault g c = λ studio first written begun r.
    stops_behind studio (plan_view c.args.plan.now) first written c.parts.self c.parts.parts (octets_of c.parts.window) c.parts.window.ended (g.R.Read.remaining c.parts.reader) (g.W.Write.contents c.parts.writer) (g.L.ReplayObserver.heard begun c.parts.observer) c.parts.closing c.parts.closing_place _
    (c.parts.invariant studio first written begun r) (λ file _. tt) (λ changed events. tt) (λ changed events replayed. replayed) tt
