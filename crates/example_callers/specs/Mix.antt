-- The next marks of a stream that a mixer takes.
use Rattle.std.specs.Prelude.{◌≡◌, ◌⊎◌, ℕ, ◌+◌, ◌<◌, Bool, true, false, List, [], ◌∷◌, ◌++◌, length, take}
use Rattle.rtp_stream.specs.StreamSpecFacts.{format_of}
use Rattle.rtp_stream.specs.MarkFacts.{MarkView}
use Rattle.rtp_stream.specs.MarkList.{is_mark_list}
use Rattle.lane_align.specs.Cover.{covers, cover_of}
use Rattle.mix_packets.specs.Block.{block_start}
use Rattle.studio_config.specs.Studio.{Studio}
use Rattle.studio_mix.specs.Feed.{Feed}

-- a stream's feed with these marks added
abbrev pub feed_with : Feed → List MarkView → Feed
feed_with feed marks = record { stream = feed.stream; marks = feed.marks ++ marks }

-- the feeds of two streams, each with these marks added
abbrev pub feeds_with : Feed → List MarkView → Feed → List MarkView → List Feed
feeds_with a first b second = feed_with a first ∷ feed_with b second ∷ []

-- a stream's marks are final to the end of this block
abbrev pub is_final : Studio → ℕ → Feed → Bool
is_final studio number feed = covers (cover_of (format_of feed.stream) feed.marks) (block_start studio.output (number + 1))

-- the first `count` of these marks were taken: each while the block needed more, up to a mark that may not follow
pub record IsTaken (studio : Studio) (number : ℕ) (feed : Feed) (marks : List MarkView) (count : ℕ) : Type 0 where
  pub wanted : (fewer : ℕ) → fewer < count → is_final studio number (feed_with feed (take fewer marks)) ≡ false
  pub stopped : count < length marks → (is_final studio number (feed_with feed (take count marks)) ≡ true)
      ⊎ (is_mark_list (format_of feed.stream) (feed.marks ++ take (count + 1) marks) ≡ false)
