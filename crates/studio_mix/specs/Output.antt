-- The datagrams of a studio.
use Rattle.std.specs.Prelude.{ℕ, ℤ, pos, ◌+ℤ◌, List, flat_map}
use Rattle.std.specs.List.{range_with_len}
use Rattle.mix_packets.specs.Block.{block_start, block_datagram}
use Rattle.studio_config.specs.Studio.{Studio}
use Rattle.studio_mix.specs.Feed.{Feed, studio_values}
use Rattle.studio_mix.specs.Mixed.{mixed_samples}

-- the samples of a block, frame by frame
abbrev pub block_samples : Studio → List Feed → ℕ → List ℤ
block_samples studio feeds number =
    flat_map (λ frame. mixed_samples studio feeds (block_start studio.output number +ℤ pos frame)) (range_with_len 0 studio.output.frames)

-- the values of all channels of all streams in a block, frame by frame
abbrev pub block_inputs : Studio → List Feed → ℕ → List ℤ
block_inputs studio feeds number =
    flat_map (λ frame. studio_values feeds (block_start studio.output number +ℤ pos frame)) (range_with_len 0 studio.output.frames)

-- the datagram of a block
abbrev pub datagram_of : Studio → List Feed → ℕ → List ℕ
datagram_of studio feeds number = block_datagram studio.output number (block_samples studio feeds number)
