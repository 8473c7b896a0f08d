-- Output samples that are saturated, and their number.
use Rattle.std.specs.Prelude.{◌≡◌, ℕ, zero, suc, ◌+◌, ◌-◌, ◌^◌, ◌<◌, min, Bool, not, ℤ, List, [], length, slice_index_or, if◌then◌else◌}
use Rattle.std.specs.Ordering.{int_eq}
use Rattle.gain_mix.specs.Gain.{ins_of}
use Rattle.gain_mix.specs.Mix.{frame_at, rounded_sum, saturated_sum, weighted_sum}

-- a rounded sum that no output sample can hold
abbrev pub is_saturated : ℕ → ℤ → Bool
is_saturated s sum = not (int_eq (saturated_sum s sum) sum)

-- the output sample of these gains and inputs is saturated
abbrev pub is_saturated_sample : ℕ → List ℤ → List ℤ → Bool
is_saturated_sample s values gains = is_saturated s (rounded_sum s (weighted_sum gains values))

-- 1 if an output's sample of a frame is saturated, else 0
abbrev pub saturated_at : List (List ℤ) → List ℤ → ℕ → ℕ → ℕ
saturated_at rows values s output = if is_saturated_sample s values (slice_index_or rows output []) then 1 else 0

-- the number of an output's saturated samples in the first n frames
abbrev pub saturated_count : (ℕ → List (List ℤ)) → List ℤ → ℕ → ℕ → ℕ → ℕ
saturated_count matrix values s output zero = 0
saturated_count matrix values s output (suc n) =
    saturated_count matrix values s output n + saturated_at (matrix n) (frame_at (ins_of (matrix n)) n values) s output

-- counts of 64 bits, one for each output, after `more` was added to each; a count stays at the greatest value
pub record AreAdded (old new : List ℕ) (more : ℕ → ℕ) : Type 0 where
  pub len : length new ≡ length old
  pub each : (output : ℕ) → output < length old → slice_index_or new output 0 ≡ min (slice_index_or old output 0 + more output) (2 ^ 64 - 1)
