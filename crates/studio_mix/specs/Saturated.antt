-- The number of samples of the output that are saturated.
use Rattle.std.specs.Prelude.{◌≡◌, ℕ, zero, suc, ◌+◌, ◌-◌, ◌*◌, ◌^◌, ◌<◌, min, true, ℤ, pos, ◌+ℤ◌, List, length, slice_index_or}
use Rattle.gain_mix.specs.Changes.{matrix_at}
use Rattle.gain_mix.specs.Saturated.{saturated_at}
use Rattle.mix_packets.specs.OutSpec.{shift_of}
use Rattle.mix_packets.specs.Block.{block_start}
use Rattle.studio_config.specs.Studio.{Studio}
use Rattle.studio_mix.specs.Feed.{Feed, studio_values}
use Rattle.studio_mix.specs.Ready.{are_covered}

-- the number of a channel's saturated samples in the first `n` frames from `t` on
abbrev pub saturated_from : Studio → List Feed → ℕ → ℤ → ℕ → ℕ
saturated_from studio feeds channel t zero = 0
saturated_from studio feeds channel t (suc n) =
    saturated_from studio feeds channel t n + saturated_at (matrix_at studio.schedule (t +ℤ pos n)) (studio_values feeds (t +ℤ pos n)) (shift_of studio.output.enc) channel

-- the number of a channel's saturated samples in the blocks before `next`
abbrev pub saturated_before : Studio → List Feed → ℕ → ℕ → ℕ
saturated_before studio feeds next channel = saturated_from studio feeds channel studio.output.start (next * studio.output.frames)

-- the counts of saturated samples in the blocks before `next`, channel by channel; each count has 64 bits and stays at
-- the greatest value. The streams' marks cover all of these blocks
pub record AreSaturated (studio : Studio) (feeds : List Feed) (next : ℕ) (counts : List ℕ) : Type 0 where
  pub channels : length counts ≡ studio.output.channels
  pub each : (channel : ℕ) → channel < studio.output.channels → slice_index_or counts channel 0 ≡ min (saturated_before studio feeds next channel) (2 ^ 64 - 1)
  pub final : (number : ℕ) → number < next → are_covered feeds (block_start studio.output (number + 1)) ≡ true
