-- The gains of a matrix, row by row, and the answers to requests.
use Rattle.std.proofs.Common.{◌≡◌, ℕ, zero, suc, ◌+◌, ◌*◌, ◌<◌, ◌≤◌, true, false, ℤ, List, [], ◌∷◌, ◌++◌, length, take, drop, Option, if◌then◌else◌, refl, sym, ap, ◌∙◌, arith, length-drop}
use Rattle.std.specs.Int.{int_max}
use Rattle.std.proofs.Math.Nat.{mul-le-mul_right}
use Rattle.std.proofs.lemmas.List.{take-append-drop}
use Rattle.std.proofs.lemmas.Nat.{mul-le}
use Rattle.gain_mix.specs.Changes.{Changes, matrix_at}
use Rattle.gain_mix.specs.Gain.{ins_of, rows_of}
use Rattle.gain_mix.specs.LiveSchedule.{change_fault_of}
use Rattle.gain_mix.specs.declared.live_schedule.ChangeFault.{ChangeFault}
use Rattle.gain_mix.specs.declared.live_schedule.ChangeFault.TheVariants.{Shape}
use Rattle.studio_io.specs.Gains.{answer_at, change_answer, fits_request, fitting_answer, gains_in, is_change, wanted_gains}
use Rattle.studio_io.specs.declared.gain_source.GainAction.{GainAction}
use Rattle.studio_io.specs.declared.gain_source.GainAnswer.TheVariants.{Refused, Shown}

rows_joined : (n m : ℕ) (gains : List ℤ) → length gains ≡ m * n → gains_in (rows_of n m gains) ≡ gains
rows_joined n zero [] e = refl
rows_joined n zero (gain ∷ gains) e = absurd (omega (arith, e))
rows_joined n (suc m) gains e =
    ap (λ l. take n gains ++ l) (rows_joined n m (drop n gains) (omega (arith, e, length-drop n gains)))
    ∙ take-append-drop n gains

-- splitting gains into rows and joining the rows again returns the same gains
pub gains_joined : (rows : List (List ℤ)) (gains : List ℤ) → rows_of (ins_of rows) (length rows) gains ≡ rows → length gains ≡ length rows * ins_of rows → gains_in rows ≡ gains
gains_joined rows gains e long = ap gains_in (sym e) ∙ rows_joined (ins_of rows) (length rows) gains long

-- the place of a gain is within the matrix
pub place_within : (outs ins output input : ℕ) → output < outs → input < ins → output * ins + input < outs * ins
place_within outs ins output input h k =
    let more : suc output * ins ≤ outs * ins = mul-le-mul_right ins h in
    omega (arith, more, k)

-- a matrix has at most 8,192 gains
pub few_gains : (outs ins : ℕ) → outs ≤ 8 → ins ≤ 1024 → outs * ins ≤ 8192
few_gains outs ins h k = mul-le outs ins 8 1024 h k

module _ (action : GainAction) (schedule : Changes) (next at : ℤ) (gains : List ℤ) where
  -- a request that does not fit
  pub answer-unfit : fits_request action (matrix_at schedule at) gains ≡ false → answer_at action schedule next at gains ≡ Refused Shape
  answer-unfit e = ap (λ b. if b then fitting_answer (is_change action) schedule next at (wanted_gains action (matrix_at schedule at) gains) else Refused Shape) e

  answer-fit : fits_request action (matrix_at schedule at) gains ≡ true
      → answer_at action schedule next at gains ≡ fitting_answer (is_change action) schedule next at (wanted_gains action (matrix_at schedule at) gains)
  answer-fit e = ap (λ b. if b then fitting_answer (is_change action) schedule next at (wanted_gains action (matrix_at schedule at) gains) else Refused Shape) e

  -- the answer to a request that fits and is a change, by the change's fault or none
  pub answer-change : (fault : Option ChangeFault) → fits_request action (matrix_at schedule at) gains ≡ true → is_change action ≡ true
      → change_fault_of schedule next at (wanted_gains action (matrix_at schedule at) gains) ≡ fault → answer_at action schedule next at gains ≡ change_answer fault at
  answer-change fault e changes is =
      answer-fit e
      ∙ ap (λ b. fitting_answer b schedule next at (wanted_gains action (matrix_at schedule at) gains)) changes
      ∙ ap (λ o. change_answer o at) is

  -- the answer to a request that fits and only shows gains
  pub answer-show : fits_request action (matrix_at schedule at) gains ≡ true → is_change action ≡ false → answer_at action schedule next at gains ≡ Shown (int_max at next)
  answer-show e none = answer-fit e ∙ ap (λ b. fitting_answer b schedule next at (wanted_gains action (matrix_at schedule at) gains)) none
