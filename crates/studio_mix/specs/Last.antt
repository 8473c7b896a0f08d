-- The last block of a mixer: its values, and what is missing in it.
use Rattle.std.specs.Prelude.{◌≡◌, ℕ, ◌+◌, ◌*◌, false, ℤ, pos, List, replicate}
use Rattle.studio_config.specs.Studio.{Studio, channel_total}
use Rattle.studio_mix.specs.Feed.{Feed}
use Rattle.studio_mix.specs.Output.{block_inputs}
use Rattle.studio_mix.specs.Missing.{missing_in}
use Rattle.studio_io.specs.declared.mixed_block.Missing.{Missing}

-- the values of all streams in the block before `next`, and what is missing in it; before the first block the values are
-- 0 and nothing is missing
pub record AreLast (studio : Studio) (feeds : List Feed) (next : ℕ) (values : List ℤ) (lost : Missing) : Type 0 where
  pub inputs : (number : ℕ) → next ≡ number + 1 → values ≡ block_inputs studio feeds number
  pub missing : (number : ℕ) → next ≡ number + 1 → lost ≡ missing_in studio feeds number
  pub silent : next ≡ 0 → values ≡ replicate (studio.output.frames * channel_total studio.streams) (pos 0)
  pub nothing : next ≡ 0 → lost ≡ record { streams = 0; is_empty = false }
