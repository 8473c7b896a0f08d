use Rattle.std.proofs.lemmas.Grind.{common_steps}
use Rattle.std.proofs.Common.{rules, arith, ◌+◌, ◌-◌, ℤ, Ok, length, take, drop, inl, inr, sym, ap, ◌∙◌, FitsSigned, w64}
use Rattle.std.proofs.lemmas.Int.{to_z-of_z}
use Rattle.std.proofs.lemmas.List.{length-drop, length-take}
use Rattle.studio_run.specs.Trace.{lines_of}
use Rattle.studio_run.specs.GainsLines.{lines_said, schedule_in}
use Rattle.studio_run.proofs.LineLemmas.{fails-cut, fails-line, not_empty, said-line}
use Rattle.studio_run.proofs.gains.studio.read_lines.Goals as goal

pub returns-in_default-clause-fault : goal.returns-in_default-clause-fault
returns-in_default-clause-fault c =
    let text = c.loop-rest.rest.now in
    inr (ap schedule_in (c.loop-rest.invariant.said ∙ fails-cut text (c.loop-rest.number + 1) _ (sym c.first_place.ensures ∙ c.in_default.is) (not_empty text (sym c.is_empty.ensures ∙ c.loop-rest-test.true))))

pub returns-in-Err-clause-fault : goal.returns-in-Err-clause-fault
returns-in-Err-clause-fault c =
    let text = c.loop-rest.rest.now in
    let found = sym c.first_place.ensures ∙ c.in-Some.is in
    elim c.in-Err.ensures.fault [ inl memory ↦ inl memory | inr says ↦ inr (ap schedule_in (c.loop-rest.invariant.said ∙ fails-line text c.in-Some.end (c.loop-rest.number + 1) _ c.in-Err.kind found says)) ]

pub loop-rest-preserved : goal.loop-rest-preserved
loop-rest-preserved c =
    let text = c.loop-rest.rest.now in
    let found = sym c.first_place.ensures ∙ c.in-Some.is in
    let rest = take (length text - (c.in-Some.end + 1)) (drop (c.in-Some.end + 1) text) in
    let fits : FitsSigned w64 c.in-Ok.state.1 = search rules in
    let some = not_empty text (sym c.is_empty.ensures ∙ c.loop-rest-test.true) in
    let next = said-line text c.in-Some.end (c.loop-rest.number + 1) _ c.in-Ok.state found c.in-Ok.ensures.ok in
    let few = c.loop-rest.invariant.few in
    record {
      said = c.loop-rest.invariant.said ∙ next ∙ ap (λ (t : ℤ). lines_said (c.loop-rest.number + 1 + 1) (Ok (c.in-Ok.state.0, t)) (lines_of rest)) (sym (to_z-of_z w64 c.in-Ok.state.1 fits));
      first = c.in-Ok.ensures.first ∙ c.loop-rest.invariant.first;
      few = omega (arith, some, few, length-take (length text - (c.in-Some.end + 1)) (drop (c.in-Some.end + 1) text), length-drop (c.in-Some.end + 1) text);
    }

pub slice_bounds-rest-count : goal.slice_bounds-rest-count
slice_bounds-rest-count c = grind (arith, common_steps)

pub overflow_add-rest : goal.overflow_add-rest
overflow_add-rest c = grind (arith, common_steps)

pub returns-clause-ok : goal.returns-clause-ok
returns-clause-ok c = grind (arith, common_steps)

pub slice_bounds-rest-start : goal.slice_bounds-rest-start
slice_bounds-rest-start c = grind (arith, common_steps)
