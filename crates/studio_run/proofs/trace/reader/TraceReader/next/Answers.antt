use Rattle.std.proofs.Common.{rules, ◌≡◌, ◌++◌, ◌∙◌, Err, None, Ok, Option, ap, append-nil, arith, false, subst}
use Rattle.std.specs.Prelude.{is_some}
use Rattle.studio_run.specs.Trace.{trace_events}
use Rattle.studio_run.specs.Reader.{HasRead}
use Rattle.studio_run.specs.Places.{said_at}
use Rattle.studio_run.specs.declared.trace.text_events.TextEvent.{TextEvent}
use Rattle.studio_run.proofs.ReaderLemmas.{gives-all}
use Rattle.studio_run.proofs.trace.reader.TraceReader.next.Goals as goal

no_place : (place : Option TextEvent) → is_some place ≡ false → place ≡ None
no_place place none = search rules

pub returns-in_err-place-clause-fault : goal.returns-in_err-place-clause-fault
returns-in_err-place-clause-fault c =
    let inv = c.loop-self.invariant in
    let is : c.from_residual.result ≡ Err c.in_err-place.field-0.0 = search rules in
    rw is (λ before has. subst (λ text. trace_events text ≡ Err c.in_err-place.field-0.0) inv.text (c.in_err-place.ensures.fault before (inv.read before has)))

pub loop-self-preserved : goal.loop-self-preserved
loop-self-preserved c =
    let inv = c.loop-self.invariant in
    let none : c.in_ok-place.place ≡ None = no_place c.in_ok-place.place (search rules) in
    record {
      read = λ before has. subst (λ events. HasRead c.next_line.new.self events) (ap (λ place. before ++ said_at c.loop-self.self.text.now place) none ∙ append-nil before) (c.in_ok-place.ensures.read before (inv.read before has));
      text = c.in_ok-place.ensures.text ∙ inv.text;
      further = omega (arith, inv.further, c.in_ok-place.ensures.further);
    }

pub returns-clause-end : goal.returns-clause-end
returns-clause-end c _ before has =
    let inv = c.loop-self.invariant in
    let reader = c.loop-self.self in
    subst (λ text. trace_events text ≡ Ok before) inv.text (gives-all reader.text.now reader.at reader.line reader.events before (inv.read before has) reader.few_octets (omega (arith, c.loop-self-test.false)))
