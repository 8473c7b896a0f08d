-- An output sample: the sum of gains times inputs, rounded half up and saturated once.
use Rattle.std.specs.Prelude.{ℕ, ◌≡◌, ◌-◌, ◌*◌, ◌^◌, ◌<◌, ◌≤◌, ℤ, pos, negsuc, ◌+ℤ◌, ◌*ℤ◌, ◌==◌, List, [], ◌∷◌, map, length, take, drop, if◌then◌else◌}
use Rattle.gain_mix.specs.Gain.{ins_of}
use Rattle.std.specs.Int.RustNames.{unsigned_abs}
use Rattle.std.specs.Int.{int_div_euclid, saturate_to_bits}

-- a sample of 24 bits
abbrev pub Is24Bits : ℤ → Type 0
Is24Bits (pos n) = n < 2 ^ 23
Is24Bits (negsuc n) = n < 2 ^ 23

-- the sum over all inputs of gain times value
abbrev pub weighted_sum : List ℤ → List ℤ → ℤ
weighted_sum [] values = pos 0
weighted_sum (gain ∷ gains) [] = pos 0
weighted_sum (gain ∷ gains) (value ∷ values) = (gain *ℤ value) +ℤ weighted_sum gains values

-- this is the weighted sum, which is at most 2 ^ 53 in size
pub record IsWeighted (gains values : List ℤ) (sum : ℤ) : Type 0 where
  pub sum_is : sum ≡ weighted_sum gains values
  pub bounded : unsigned_abs sum ≤ 2 ^ 53

-- the sum divided by 2 ^ s and rounded to the nearest number, halves up: the floor of (sum + 2 ^ (s - 1)) / 2 ^ s
abbrev pub rounded_sum : ℕ → ℤ → ℤ
rounded_sum s sum = int_div_euclid (sum +ℤ pos (2 ^ (s - 1))) (pos (2 ^ s))

-- the `h` such that output samples go from -2 ^ h to 2 ^ h - 1: 23 for L24, whose shift is 16, and 15 for L16, whose
-- shift is 24
abbrev pub output_bits : ℕ → ℕ
output_bits s = if s == 16 then 23 else 15

-- the nearest value that an output sample can have
abbrev pub saturated_sum : ℕ → ℤ → ℤ
saturated_sum s sum = saturate_to_bits (output_bits s) sum

-- an output sample of these gains and inputs
abbrev pub output_sample : ℕ → List ℤ → List ℤ → ℤ
output_sample s values gains = saturated_sum s (rounded_sum s (weighted_sum gains values))

-- the output samples of one sampling instant, by the rows of a matrix
abbrev pub mixed_frame : List (List ℤ) → List ℤ → ℕ → List ℤ
mixed_frame rows values s = map (output_sample s values) rows

-- the first n samples of a frame are mixed
pub record HasMixed (rows : List (List ℤ)) (values : List ℤ) (s n : ℕ) (samples : List ℤ) : Type 0 where
  pub count : length samples ≡ length rows
  pub so_far : take n samples ≡ take n (mixed_frame rows values s)

-- the samples of frame `f`, if each frame has `channels` samples
abbrev pub frame_at : ℕ → ℕ → List ℤ → List ℤ
frame_at channels f samples = take channels (drop (f * channels) samples)

-- each frame of the outputs is the inputs' frame, mixed by the matrix of that frame
abbrev pub IsMixed : (ℕ → List (List ℤ)) → List ℤ → List ℤ → ℕ → ℕ → Type 0
IsMixed matrix values samples frames s =
    (f : ℕ) → f < frames
    → frame_at (length (matrix f)) f samples ≡ mixed_frame (matrix f) (frame_at (ins_of (matrix f)) f values) s
