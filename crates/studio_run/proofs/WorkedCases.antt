-- Worked cases: the text of examples/moving-gains, and texts with a fault.
use Rattle.std.proofs.Common.{◌≡◌, ℕ, ℤ, pos, negsuc, List, [], ◌∷◌, ◌++◌, Ok, Err, refl}
use Rattle.std.specs.Prelude.{codes}
use Rattle.gain_mix.specs.Changes.{Changes}
use Rattle.studio_run.specs.GainsLines.{fault_in, schedule_after}
use Rattle.studio_run.specs.declared.gains.fault.GainsFaultKind.TheVariants.{Cut, Word, Fields, Number, Range, Order}

-- the gains of one input to two outputs
abbrev column : ℤ → ℤ → List (List ℤ)
column left right = (left ∷ []) ∷ (right ∷ []) ∷ []

abbrev planned : Changes
planned = record { first = column (pos 65536) (pos 65536); later = (pos 9, column (pos 0) (pos 0)) ∷ [] }

abbrev line : List ℕ → List ℕ
line text = text ++ 10 ∷ []

moved : schedule_after planned (line (codes "# a comment") ++ line (codes "gain 3 1 0 32768") ++ line [] ++ line (codes "gains 8 131072 -131072") ++ line (codes "gain 8 1 0 0"))
    ≡ Ok (record { first = column (pos 65536) (pos 65536); later = (pos 3, column (pos 65536) (pos 32768)) ∷ (pos 8, column (pos 131072) (pos 0)) ∷ [] })
moved = refl

-- a change that was planned for an earlier time stays
later : schedule_after planned (line (codes "gain 10 0 0 -5"))
    ≡ Ok (record { first = column (pos 65536) (pos 65536); later = (pos 9, column (pos 0) (pos 0)) ∷ (pos 10, column (negsuc 4) (pos 0)) ∷ [] })
later = refl

none : schedule_after planned [] ≡ Ok planned
none = refl

cut : schedule_after planned (line (codes "gain 3 1 0 0") ++ codes "#") ≡ Err (fault_in 2 Cut)
cut = refl

word : schedule_after planned (line (codes "3 1 0 0")) ≡ Err (fault_in 1 Word)
word = refl

fields : schedule_after planned (line (codes "gains 3 1 0 0")) ≡ Err (fault_in 1 Fields)
fields = refl

number : schedule_after planned (line (codes "gain 3 1 0 -0")) ≡ Err (fault_in 1 Number)
number = refl

range : schedule_after planned (line (codes "gain 3 2 0 0")) ≡ Err (fault_in 1 Range)
range = refl

early : schedule_after planned (line (codes "gain -1 0 0 0")) ≡ Err (fault_in 1 Range)
early = refl

order : schedule_after planned (line (codes "gain 5 0 0 0") ++ line (codes "gain 4 0 0 0")) ≡ Err (fault_in 2 Order)
order = refl
