use Rattle.std.proofs.lemmas.Grind.{elements}
use Rattle.std.proofs.Common.{◌≡◌, ◌+◌, ◌-◌, ◌∷◌, ◌++◌, [], length, take, subst, sym, ◌∙◌, ap, arith}
use Rattle.std.proofs.lemmas.List.{take_rest}
use Rattle.std.specs.Prelude.{IfSome}
use Rattle.studio_run.specs.Trace.{GivesEvents, ReadsLine}
use Rattle.studio_run.specs.LineEvent.{said_by_line, said_in}
use Rattle.studio_run.specs.Places.{event_at, IsPlace}
use Rattle.studio_run.proofs.PlaceLemmas.{Stands, EndsLine, EndsLine-of}
use Rattle.studio_run.proofs.ReaderLemmas.{gives-fault, gives-line, gives-silent}
use Rattle.studio_run.proofs.trace.reader.TraceReader.next_line.Goals as goal
use Rattle.studio_run.proofs.trace.reader.TraceReader.next_line.Goals.{In-Ok}

ends : (c : In-Ok) → EndsLine c.args.self.now.text.now c.args.self.now.at c.in-Ok.ensures.ok.line c.in-Ok.read.0 (length c.args.self.now.text.now - length c.in-Ok.read.1.now - 1)
ends c = EndsLine-of c.args.self.now.text.now c.args.self.now.at _ c.args.self.now.events c.in-Ok.read.0 c.in-Ok.read.1.now (take_rest c.args.self.now.text.now c.args.self.now.at) (omega (arith, c.requires)) c.in-Ok.ensures.ok

pub returns-in-Err-clause-fault : goal.returns-in-Err-clause-fault
returns-in-Err-clause-fault c before has =
    let reader = c.args.self.now in
    gives-fault reader.text.now _ reader.at reader.line reader.events before c.in-Err.kind has reader.few_octets (take_rest reader.text.now reader.at) c.in-Err.ensures.fault

pub returns-in-Some-clause-read : goal.returns-in-Some-clause-read
returns-in-Some-clause-read c before has =
    let reader = c.args.self.now in
    let text = reader.text.now in
    let after = c.in-Ok.read.1.now in
    let here = ends (goal.at.returns-in-Some-clause-read c).In-Ok in
    let stands : Stands text c.in-Some.event (length text - length after - 1) = subst (λ o. IfSome o (λ e. Stands text e (length text - length after - 1))) c.in-Some.is here.stands in
    let said : event_at text c.text_event.result ≡ said_in c.in-Some.event = ap (event_at text) c.text_event.ensures ∙ stands.said in
    let reads = subst (λ o. ReadsLine c.in-Ok.ensures.ok.line reader.events (said_by_line o)) c.in-Some.is c.in-Ok.ensures.ok.reads in
    rw said (subst (λ front. GivesEvents front (reader.line + 1) (reader.events + 1) (before ++ (said_in c.in-Some.event ∷ []))) (sym here.front)
    (gives-line (take reader.at text) c.in-Ok.ensures.ok.line reader.line reader.events before (said_in c.in-Some.event ∷ []) has reads))

pub returns-in-Some-clause-place : goal.returns-in-Some-clause-place
returns-in-Some-clause-place c =
    let text = c.args.self.now.text.now in
    let after = c.in-Ok.read.1.now in
    let here = ends (goal.at.returns-in-Some-clause-place c).In-Ok in
    let stands : Stands text c.in-Some.event (length text - length after - 1) = subst (λ o. IfSome o (λ e. Stands text e (length text - length after - 1))) c.in-Some.is here.stands in
    subst (IsPlace text) (sym c.text_event.ensures) stands.place

pub returns-in-None-clause-read : goal.returns-in-None-clause-read
returns-in-None-clause-read c before has =
    let reader = c.args.self.now in
    let text = reader.text.now in
    let here = ends (goal.at.returns-in-None-clause-read c).In-Ok in
    let reads = subst (λ o. ReadsLine c.in-Ok.ensures.ok.line reader.events (said_by_line o)) c.in-None.is c.in-Ok.ensures.ok.reads in
    subst (λ front. GivesEvents front (reader.line + 1) reader.events (before ++ [])) (sym here.front)
    (gives-silent (take reader.at text) c.in-Ok.ensures.ok.line reader.line reader.events before has reads)

pub overflow_sub-end : goal.overflow_sub-end
overflow_sub-end c = grind (arith, elements)

pub invariant_of-self : goal.invariant_of-self
invariant_of-self c = grind (arith, elements)

pub returns-in-Some-clause-further : goal.returns-in-Some-clause-further
returns-in-Some-clause-further c = grind (arith, elements)

pub returns-in-None-clause-further : goal.returns-in-None-clause-further
returns-in-None-clause-further c = grind (arith, elements)

pub overflow_sub-end-2 : goal.overflow_sub-end-2
overflow_sub-end-2 c = grind (arith, elements)

pub invariant_of-self-in-None : goal.invariant_of-self-in-None
invariant_of-self-in-None c = grind (arith, elements)

pub text_event-requires : goal.text_event-requires
text_event-requires c = grind (arith, elements)
