-- An engine that was taken out, moved, and put back.
use Rattle.std.proofs.Common.{◌≡◌, Option, Some, sym, subst, ◌∙◌}
use Rattle.std.specs.Prelude.{IsSomeAnd}
use Rattle.studio_engine.specs.Engine.{EngineState}
use Rattle.darbexum_c.specs.Moves.{Moves}

pub moved : (R : EngineState → EngineState → Type 0) (h k : Option EngineState) (before lent after : EngineState) → h ≡ Some before → lent ≡ before → k ≡ Some after → R lent after → Moves h k R
moved R h k before lent after is_h is_lent is_k r =
    subst (λ x. Moves x k R) (sym is_h) (subst (λ y. Moves (Some before) y R) (sym is_k) (subst (λ e. R e after) is_lent r))

pub seen : (P : EngineState → Type 0) (h : Option EngineState) (before lent : EngineState) → h ≡ Some before → lent ≡ before → P lent → IsSomeAnd h P
seen P h before lent is_h is_lent p = subst (λ x. IsSomeAnd x P) (sym is_h) (subst P is_lent p)

one : (x y : EngineState) → Some x ≡ Some y → x ≡ y
one x y e = cc

pub of_handle : (P : EngineState → Type 0) (h : Option EngineState) (before lent engine : EngineState) → h ≡ Some before → lent ≡ before → h ≡ Some engine → P lent → P engine
of_handle P h before lent engine is_h is_lent is p = subst P (is_lent ∙ one before engine (sym is_h ∙ is)) p
