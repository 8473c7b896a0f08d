use Rattle.std.proofs.lemmas.Nat.{rows}
use Rattle.std.proofs.lemmas.Grind.{elements}
use Rattle.std.proofs.Common.{rules, ◌≡◌, ◌∙◌, [], ◌∷◌, ◌++◌, All, Err, inl, map, sym, ap, refl, subst, arith}
use Rattle.std.proofs.lemmas.List.{map-append}
use Rattle.std.proofs.lemmas.List.Elements.{All-append, All-cons, All-nil}
use Rattle.studio_run.specs.Trace.{BeginsWithEvents, fault_in}
use Rattle.studio_run.specs.Places.{IsPlace, event_at, said_at}
use Rattle.studio_run.specs.Reader.{HasRead}
use Rattle.studio_run.specs.declared.trace.fault.TraceFaultKind.TheVariants.{Memory}
use Rattle.studio_run.proofs.ReaderLemmas.{gives-some}
use Rattle.studio_run.proofs.trace.text_events.TracedEvents.new.Goals as goal
use Rattle.studio_run.proofs.trace.text_events.TracedEvents.new.Goals.{In-Some}

-- the event of this place was read after those of the places before it
has : (c : In-Some) → HasRead c.next.new.self (map (event_at c.args.text.now) c.loop-places.places.items ++ (event_at c.args.text.now c.in-Some.place ∷ []))
has c =
    let before = map (event_at c.args.text.now) c.loop-places.places.items in
    subst (λ said. HasRead c.next.new.self (before ++ said)) (ap (said_at c.loop-places.reader.text.now) c.in-Some.is ∙ ap (λ text. event_at text c.in-Some.place ∷ []) c.loop-places.invariant.text)
    (c.in_ok-place.ensures.read before c.loop-places.invariant.read)

pub loop-places-preserved : goal.loop-places-preserved
loop-places-preserved c =
    let inv = c.loop-places.invariant in
    let text = c.args.text.now in
    let place = c.in-Some.place in
    let items : c.push.new.self.items ≡ c.loop-places.places.items ++ (place ∷ []) = search rules in
    let sound : IsPlace text place = subst (λ t. IsPlace t place) inv.text (rw c.in-Some.is at c.in_ok-place.ensures.place) in
    record {
      text = c.in_ok-place.ensures.text ∙ inv.text;
      read = subst (λ events. HasRead c.next.new.self events) (sym (ap (map (event_at text)) items ∙ map-append (event_at text) c.loop-places.places.items (place ∷ []))) (has (goal.at.loop-places-preserved c).In-Some);
      sound = subst (All (IsPlace text)) (sym items) (All-append (IsPlace text) c.loop-places.places.items (place ∷ []) inv.sound (All-cons (IsPlace text) place [] sound (All-nil (IsPlace text))));
    }

pub returns-in_err-map_err-clause-fault : goal.returns-in_err-map_err-clause-fault
returns-in_err-map_err-clause-fault c =
    let reader = c.next.new.self in
    let is : c.from_residual-in_err-map_err.result ≡ Err (fault_in 0 Memory) = search rules in
    let begins = gives-some reader.text.now reader.at reader.line reader.events _ _ (has (goal.at.returns-in_err-map_err-clause-fault c).In-Some) reader.few_octets in
    rw is (inl (refl, subst BeginsWithEvents (c.in_ok-place.ensures.text ∙ c.loop-places.invariant.text) begins))

pub loop-places-smaller : goal.loop-places-smaller
loop-places-smaller c = grind (arith, elements)

pub returns-in_err-place-clause-fault : goal.returns-in_err-place-clause-fault
returns-in_err-place-clause-fault c = grind (arith, rows)
