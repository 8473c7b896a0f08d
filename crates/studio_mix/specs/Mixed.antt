-- The output's samples at a time.
use Rattle.std.specs.Prelude.{ℕ, ℤ, pos, List, slice_index_or}
use Rattle.gain_mix.specs.Changes.{matrix_at}
use Rattle.gain_mix.specs.Mix.{mixed_frame}
use Rattle.mix_packets.specs.OutSpec.{shift_of}
use Rattle.studio_config.specs.Studio.{Studio}
use Rattle.studio_mix.specs.Feed.{Feed, studio_values}

-- the samples of all channels: each is the sum, over all streams and channels, of gain times value, rounded once and
-- saturated once
abbrev pub mixed_samples : Studio → List Feed → ℤ → List ℤ
mixed_samples studio feeds t = mixed_frame (matrix_at studio.schedule t) (studio_values feeds t) (shift_of studio.output.enc)

-- the sample of one channel
abbrev pub mixed_sample : Studio → List Feed → ℕ → ℤ → ℤ
mixed_sample studio feeds channel t = slice_index_or (mixed_samples studio feeds t) channel (pos 0)
