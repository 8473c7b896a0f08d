use Rattle.std.proofs.lemmas.Grind.{elements}
use Rattle.std.proofs.Common.{rules, ◌≡◌, ◌∙◌, [], ◌∷◌, ◌++◌, Err, inl, map, sym, ap, refl, subst, arith}
use Rattle.std.proofs.lemmas.List.{map-append}
use Rattle.studio_session.specs.Event.{said_by}
use Rattle.studio_run.specs.Trace.{BeginsWithEvents, fault_in}
use Rattle.studio_run.specs.Places.{event_at, said_at}
use Rattle.studio_run.specs.Reader.{HasRead}
use Rattle.studio_run.specs.declared.trace.fault.TraceFaultKind.TheVariants.{Memory}
use Rattle.studio_run.proofs.ReaderLemmas.{gives-some}
use Rattle.studio_run.proofs.trace.events.read_trace.Goals as goal
use Rattle.studio_run.proofs.trace.events.read_trace.Goals.{In-Some}

-- the event of this place was read after those before it
has : (c : In-Some) → HasRead c.next.new.self (map said_by c.loop-events.events.items ++ (event_at c.args.text.now c.in-Some.place ∷ []))
has c =
    let before = map said_by c.loop-events.events.items in
    subst (λ said. HasRead c.next.new.self (before ++ said)) (ap (said_at c.loop-events.reader.text.now) c.in-Some.is ∙ ap (λ text. event_at text c.in-Some.place ∷ []) c.loop-events.invariant.text)
    (c.in_ok-place.ensures.read before c.loop-events.invariant.read)

begins : (c : In-Some) → BeginsWithEvents c.args.text.now
begins c =
    let reader = c.next.new.self in
    subst BeginsWithEvents (c.in_ok-place.ensures.text ∙ c.loop-events.invariant.text) (gives-some reader.text.now reader.at reader.line reader.events _ _ (has c) reader.few_octets)

pub returns-in_err-event-clause-fault : goal.returns-in_err-event-clause-fault
returns-in_err-event-clause-fault c =
    let is : c.from_residual-in_err-event.result ≡ Err (fault_in 0 Memory) = search rules in
    rw is (inl (refl, begins (goal.at.returns-in_err-event-clause-fault c).In-Some))

pub loop-events-preserved : goal.loop-events-preserved
loop-events-preserved c =
    let event : said_by c.in_ok-event.event ≡ event_at c.args.text.now c.in-Some.place = search rules in
    let items : c.push.new.self.items ≡ c.loop-events.events.items ++ (c.in_ok-event.event ∷ []) = search rules in
    record {
      text = c.in_ok-place.ensures.text ∙ c.loop-events.invariant.text;
      read = subst (λ events. HasRead c.next.new.self events) (sym (ap (map said_by) items ∙ map-append said_by c.loop-events.events.items (c.in_ok-event.event ∷ []) ∙ ap (λ said. map said_by c.loop-events.events.items ++ (said ∷ [])) event)) (has (goal.at.loop-events-preserved c).In-Some);
    }

pub returns-in_err-map_err-clause-fault : goal.returns-in_err-map_err-clause-fault
returns-in_err-map_err-clause-fault c =
    let is : c.from_residual-in_err-map_err.result ≡ Err (fault_in 0 Memory) = search rules in
    rw is (inl (refl, begins (goal.at.returns-in_err-map_err-clause-fault c).In-Some))

pub loop-events-smaller : goal.loop-events-smaller
loop-events-smaller c = grind (arith, elements)
