-- Four outputs at once: their rows of gains, their sums and their samples.
use Rattle.std.specs.Prelude.{ℕ, ◌≡◌, ◌+◌, ◌*◌, ◌^◌, ◌≤◌, ℤ, List, Some, take, set, slice_get}
use Rattle.std.specs.Int.RustNames.{unsigned_abs}
use Rattle.gain_mix.specs.declared.four_rows.FourRows.{FourRows}
use Rattle.gain_mix.specs.declared.four_rows.FourSums.{FourSums}
use Rattle.gain_mix.specs.Gain.{IsRow}
use Rattle.gain_mix.specs.Mix.{IsWeighted, rounded_sum, saturated_sum, weighted_sum}

-- four rows, each with a gain for each of `ins` inputs
pub record AreRows (ins : ℕ) (rows : FourRows) : Type 0 where
  pub first : IsRow ins rows.first.now
  pub second : IsRow ins rows.second.now
  pub third : IsRow ins rows.third.now
  pub fourth : IsRow ins rows.fourth.now

-- the rows of four outputs, from this one on
pub record AreRowsAt (matrix : List (List ℤ)) (output : ℕ) (rows : FourRows) : Type 0 where
  pub first : slice_get matrix output ≡ Some rows.first.now
  pub second : slice_get matrix (output + 1) ≡ Some rows.second.now
  pub third : slice_get matrix (output + 2) ≡ Some rows.third.now
  pub fourth : slice_get matrix (output + 3) ≡ Some rows.fourth.now

-- the sum over the first `count` inputs, and a bound of its size
pub record IsSumTo (gains values : List ℤ) (count : ℕ) (sum : ℤ) : Type 0 where
  pub sum_is : sum ≡ weighted_sum (take count gains) (take count values)
  pub bounded : unsigned_abs sum ≤ count * 8796093022208

pub record AreSumsTo (rows : FourRows) (values : List ℤ) (count : ℕ) (sums : FourSums) : Type 0 where
  pub first : IsSumTo rows.first.now values count sums.first
  pub second : IsSumTo rows.second.now values count sums.second
  pub third : IsSumTo rows.third.now values count sums.third
  pub fourth : IsSumTo rows.fourth.now values count sums.fourth

-- the sums over all inputs
pub record AreWeighted (rows : FourRows) (values : List ℤ) (sums : FourSums) : Type 0 where
  pub first : IsWeighted rows.first.now values sums.first
  pub second : IsWeighted rows.second.now values sums.second
  pub third : IsWeighted rows.third.now values sums.third
  pub fourth : IsWeighted rows.fourth.now values sums.fourth

pub record AreBounded (sums : FourSums) : Type 0 where
  pub first : unsigned_abs sums.first ≤ 2 ^ 53
  pub second : unsigned_abs sums.second ≤ 2 ^ 53
  pub third : unsigned_abs sums.third ≤ 2 ^ 53
  pub fourth : unsigned_abs sums.fourth ≤ 2 ^ 53

-- the sample of a sum
abbrev pub sample_of : ℕ → ℤ → ℤ
sample_of s sum = saturated_sum s (rounded_sum s sum)

-- the samples with four of them, from place `i` on, set to those of these sums
abbrev pub with_four : ℕ → FourSums → ℕ → List ℤ → List ℤ
with_four s sums i samples =
    set (set (set (set samples i (sample_of s sums.first)) (i + 1) (sample_of s sums.second)) (i + 2) (sample_of s sums.third)) (i + 3) (sample_of s sums.fourth)
