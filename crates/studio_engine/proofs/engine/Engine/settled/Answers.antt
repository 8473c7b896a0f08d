use Rattle.std.proofs.Common.{◌≡◌, Bool, false, true, refl, sym, subst, ◌∙◌}
use Rattle.std.proofs.lemmas.Bool.{false≢true}
use Rattle.studio_engine.specs.Engine.{EngineState, HasAllMarks}
use Rattle.studio_engine.proofs.engine.Engine.settled.Goals as goal

pub returns-clause-whole : goal.returns-clause-whole
returns-clause-whole c = λ e.
    let i = c.self.inside in
    let inv = c.self.invariant in
    let inside : EngineState = record { mixer = i.mixer; cursors = i.cursors.cursors; time = i.time; turning = i.turning; closed = i.closed; settled = i.settled; count = i.cursors.count } in
    let whole : HasAllMarks inside = record { idle = at_rest i.turning i.closed inv.open_yet (inv.shut e); given = λ _. e } in
    subst HasAllMarks c.self.view_is whole
  where
    at_rest : (turning closed : Bool) → (turning ≡ true → closed ≡ false) → closed ≡ true → turning ≡ false
    at_rest true closed open_yet shut = absurd (false≢true (sym (open_yet refl) ∙ shut))
    at_rest false closed open_yet shut = refl
