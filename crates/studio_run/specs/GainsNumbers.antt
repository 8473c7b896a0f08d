-- The whole numbers that the fields of a line spell.
use Rattle.std.specs.Prelude.{ℕ, ◌^◌, ◌-◌, ◌==◌, ℤ, pos, neg_ℤ, List, [], ◌∷◌, length, drop, slice_index, Option, Some, None, Result, Ok, Err, if◌then◌else◌}
use Rattle.studio_run.specs.Trace.{number_of}
use Rattle.studio_run.specs.declared.gains.fault.GainsFaultKind.{GainsFaultKind}
use Rattle.studio_run.specs.declared.gains.fault.GainsFaultKind.TheVariants.{Fields, Number}

-- the number of this size that is not below 0
abbrev pub from_zero : Option ℕ → Option ℤ
from_zero None = None
from_zero (Some size) = Some (pos size)

-- the number below 0 of this size
abbrev pub below_zero : Option ℕ → Option ℤ
below_zero None = None
below_zero (Some size) = if size == 0 then None else Some (neg_ℤ (pos size))

-- the whole number that a field spells: decimal digits without a leading zero, which follow `-`, 45, if it is below 0
abbrev pub integer_of : List ℕ → Option ℤ
integer_of field =
    if slice_index field 0 == 45 then below_zero (number_of (2 ^ 63 - 1) (drop 1 field)) else from_zero (number_of (2 ^ 63 - 1) field)

abbrev pub with_integer : Option ℤ → Option (List ℤ) → Option (List ℤ)
with_integer None more = None
with_integer (Some number) None = None
with_integer (Some number) (Some more) = Some (number ∷ more)

-- the whole numbers that fields spell
abbrev pub integers_of : List (List ℕ) → Option (List ℤ)
integers_of [] = Some []
integers_of (field ∷ fields) = with_integer (integer_of field) (integers_of fields)

abbrev pub numbers : Option (List ℤ) → Result (List ℤ) GainsFaultKind
numbers None = Err Number
numbers (Some spelled) = Ok spelled

-- the whole numbers that `count` fields spell
abbrev pub numbers_of : ℕ → List (List ℕ) → Result (List ℤ) GainsFaultKind
numbers_of count fields = if length fields == count then numbers (integers_of fields) else Err Fields
