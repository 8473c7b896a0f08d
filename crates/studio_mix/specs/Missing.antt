-- The streams that are missing in a block.
use Rattle.std.specs.Prelude.{ℕ, ◌+◌, Bool, false, not, ◌&&◌, ◌||◌, nat_lt, ℤ, pos, ◌+ℤ◌, List, [], ◌∷◌, if◌then◌else◌}
use Rattle.std.specs.List.{list_any, range_with_len}
use Rattle.rtp_stream.specs.StreamSpecFacts.{format_of}
use Rattle.lane_align.specs.Presence.{is_present}
use Rattle.gain_mix.specs.Changes.{matrix_at}
use Rattle.gain_mix.specs.Gain.{are_used}
use Rattle.mix_packets.specs.Block.{block_start}
use Rattle.studio_config.specs.Studio.{Studio}
use Rattle.studio_mix.specs.Feed.{Feed}
use Rattle.studio_io.specs.declared.mixed_block.Missing.{Missing}

-- a stream whose first channel is `at` is used at a time: a gain in force from one of its channels is not 0
abbrev pub is_used : Studio → ℕ → Feed → ℤ → Bool
is_used studio at feed t = are_used (matrix_at studio.schedule t) at feed.stream.channels

-- the stream is used at the time, and no packet that came has it; `is_heard` is that it is used, and one has it
abbrev pub is_missing : Studio → ℕ → Feed → ℤ → Bool
is_missing studio at feed t = is_used studio at feed t && not (is_present (format_of feed.stream) feed.marks t)

abbrev pub is_heard : Studio → ℕ → Feed → ℤ → Bool
is_heard studio at feed t = is_used studio at feed t && is_present (format_of feed.stream) feed.marks t

-- it is so at one of the times of a number of frames
abbrev pub at_some : ℕ → ℤ → (ℤ → Bool) → Bool
at_some frames t is = list_any (λ f. is (t +ℤ pos f)) (range_with_len 0 frames)

-- how many of the streams are missing at one of the times of a block that begins at this one; the first stream's first
-- channel is `at`
abbrev pub missing_from : Studio → ℕ → List Feed → ℤ → ℕ
missing_from studio at [] t = 0
missing_from studio at (feed ∷ feeds) t =
    (if at_some studio.output.frames t (is_missing studio at feed) then 1 else 0) + missing_from studio (at + feed.stream.channels) feeds t

-- one of the streams is heard at one of these times
abbrev pub heard_from : Studio → ℕ → List Feed → ℤ → Bool
heard_from studio at [] t = false
heard_from studio at (feed ∷ feeds) t =
    at_some studio.output.frames t (is_heard studio at feed) || heard_from studio (at + feed.stream.channels) feeds t

-- what is missing in a block: how many streams are missing at one of its times, and whether the block is empty: streams
-- are missing in it, and none is heard
abbrev pub missing_in : Studio → List Feed → ℕ → Missing
missing_in studio feeds number = record {
  streams = missing_from studio 0 feeds (block_start studio.output number);
  is_empty = nat_lt 0 (missing_from studio 0 feeds (block_start studio.output number))
      && not (heard_from studio 0 feeds (block_start studio.output number));
}
