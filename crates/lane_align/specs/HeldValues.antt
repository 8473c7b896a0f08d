-- The values that a lane holds from its position on.
use Rattle.std.specs.Prelude.{◌≡◌, ℕ, ◌+◌, ◌*◌, ◌^◌, ◌<◌, ◌≤◌, List, ◌++◌, length, take, drop, replicate, ℤ, pos}

-- values, frame by frame; `capacity` is the number of values that may be stored
pub record Held : Type 0 where
  pub channels : ℕ
  pub block : ℕ
  pub capacity : ℕ
  pub values : List ℤ

-- `frames` frames of silence
abbrev pub silence : ℕ → ℕ → List ℤ
silence channels frames = replicate (frames * channels) (pos 0)

-- the first `count` values, with silence after their end
abbrev pub first_values : ℕ → List ℤ → List ℤ
first_values count values = take count (values ++ replicate count (pos 0))

-- silence, the first `front` stored values, silence again, and the rest of the stored values
abbrev pub values_held : ℕ → ℕ → ℕ → ℕ → List ℤ → List ℤ
values_held channels lead front gap stored =
    silence channels lead ++ (take front stored ++ (silence channels gap ++ drop front stored))

-- a gap between stored values begins at the end of the next block
pub record IsHeld (channels block lead front gap : ℕ) (stored : List ℤ) : Type 0 where
  pub some_channels : 0 < channels
  pub few_channels : channels ≤ 64
  pub short_block : block ≤ 192
  pub front_stored : front ≤ length stored
  pub block_end : 0 < gap → lead * channels + front ≡ block * channels
  pub small_lead : lead < 2 ^ 62
  pub small_gap : gap < 2 ^ 62
