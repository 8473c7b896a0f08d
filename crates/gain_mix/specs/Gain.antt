-- Gains in a list, row by row.
use Rattle.std.specs.Prelude.{◌≡◌, ℕ, zero, suc, ◌*◌, ◌≤◌, Bool, not, ℤ, pos, List, [], ◌∷◌, length, take, drop, All}
use Rattle.std.specs.Ordering.{int_eq}
use Rattle.std.specs.List.{list_any}
use Rattle.std.specs.Int.RustNames.{unsigned_abs}

-- a gain in units of 1/65,536: it multiplies by at most 16 in size, and may be negative
abbrev pub IsGain : ℤ → Type 0
IsGain g = unsigned_abs g ≤ 1048576

-- a row of gains, one for each of `ins` inputs
pub record IsRow (ins : ℕ) (row : List ℤ) : Type 0 where
  pub len : length row ≡ ins
  pub in_range : All IsGain row

-- a list of gains, divided into `outs` rows of `ins` gains each
abbrev pub rows_of : ℕ → ℕ → List ℤ → List (List ℤ)
rows_of ins zero gains = []
rows_of ins (suc outs) gains = take ins gains ∷ rows_of ins outs (drop ins gains)

-- the number of inputs of a matrix with these rows
abbrev pub ins_of : List (List ℤ) → ℕ
ins_of [] = 0
ins_of (row ∷ rows) = length row

-- gains that make a matrix
pub record IsMatrix (outs ins : ℕ) (gains : List ℤ) : Type 0 where
  pub some_outs : 1 ≤ outs
  pub few_outs : outs ≤ 8
  pub some_ins : 1 ≤ ins
  pub few_ins : ins ≤ 1024
  pub in_rows : length gains ≡ outs * ins
  pub in_range : All IsGain gains

-- one of these gains is not 0
abbrev pub has_gain : List ℤ → Bool
has_gain gains = list_any (λ gain. not (int_eq gain (pos 0))) gains

-- `count` inputs from `at` on are used: in one of the rows one of them has a gain that is not 0
abbrev pub are_used : List (List ℤ) → ℕ → ℕ → Bool
are_used rows at count = list_any (λ row. has_gain (take count (drop at row))) rows
