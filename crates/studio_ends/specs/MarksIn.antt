-- The steps of the mixer's turn.
use Rattle.std.specs.Prelude.{◌≡◌, ℕ, ◌+◌, ◌≤◌, ◌⊎◌, true, List, [], ◌∷◌, ◌++◌, length, ℤ, slice_get, slice_set, Some}
use Rattle.rtrb.specs.Ring.{received, known_items, SameConsumer}
use Rattle.rtp_stream.specs.declared.stream_spec.Stream.{Stream}
use Rattle.rtp_stream.specs.StreamSpecFacts.{format_of}
use Rattle.rtp_stream.specs.MarkFacts.{MarkView}
use Rattle.lane_align.specs.AcceptedMarks.{accepted_after, accepted_marks}
use Rattle.lane_align.specs.Cover.{covers, cover_of}
use Rattle.mix_packets.specs.Block.{block_start}
use Rattle.studio_config.specs.Studio.{Studio}
use Rattle.studio_mix.specs.Feed.{Feed}
use Rattle.studio_mix.specs.Mixer.{MixerState, HasFeeds}
use Rattle.studio_ends.specs.AcceptedFeeds.{accepted_feeds, accepted_total, received_total}
use Rattle.studio_ends.specs.declared.rings.TokenConsumer.{TokenConsumer}

-- a stream's feed after more marks: the accepted ones are added
abbrev pub fed_more : Feed → List MarkView → Feed
fed_more feed marks = record { stream = feed.stream; marks = accepted_after (format_of feed.stream) feed.marks marks }

-- marks were taken from a stream's ring; the accepted ones were fed to the mixer, and the others are strange
pub record TakesMarks (old new : TokenConsumer MarkView) (m w : MixerState) (stream taken strange : ℕ) : Type 0 where
  pub more : List MarkView
  pub ring : SameConsumer old.ring new.ring
  pub done : new.done ≡ old.done
  pub received_are : received new.ring ≡ received old.ring ++ more
  pub count_is : length more ≡ taken
  pub lanes : length w.lanes ≡ length m.lanes
  pub spec : w.packer.spec ≡ m.packer.spec
  pub stands : (studio : Studio) (feeds : List Feed) (number : ℕ) (feed : Feed)
      → HasFeeds studio m feeds number → slice_get feeds stream ≡ Some feed → HasFeeds studio w (slice_set feeds stream (fed_more feed more)) number
  pub counted : (studio : Studio) (feeds : List Feed) (number : ℕ) (feed : Feed)
      → HasFeeds studio m feeds number → slice_get feeds stream ≡ Some feed → length (fed_more feed more).marks + strange ≡ length feed.marks + taken

-- why no more marks were taken: 64 were, or none is known to be left, or the accepted marks cover the block to its end
abbrev pub StopsTaking : ℕ → TokenConsumer MarkView → Stream → List MarkView → ℤ → Type 0
StopsTaking taken side stream accepted end =
    (taken ≡ 64) ⊎ ((known_items side.ring ≡ []) ⊎ (covers (cover_of (format_of stream) accepted) end ≡ true))

-- as many marks were taken of a stream as the next block needs, but at most 64
pub record TakesWanted (old new : TokenConsumer MarkView) (m w : MixerState) (stream taken strange : ℕ) : Type 0 where
  pub takes : TakesMarks old new m w stream taken strange
  pub most : taken ≤ 64
  pub some_strange : strange ≤ taken
  pub stop : (studio : Studio) (feeds : List Feed) (number : ℕ) (feed : Feed) → HasFeeds studio m feeds number → slice_get feeds stream ≡ Some feed
      → StopsTaking taken new feed.stream (fed_more feed takes.more).marks (block_start studio.output (number + 1))

-- some marks were taken from a ring, at most 64
pub record TakesSome (old new : TokenConsumer MarkView) : Type 0 where
  pub ring : SameConsumer old.ring new.ring
  pub done : new.done ≡ old.done
  pub more : List MarkView
  pub received_are : received new.ring ≡ received old.ring ++ more
  pub most : length more ≤ 64

abbrev pub AllTakeSome : List (TokenConsumer MarkView) → List (TokenConsumer MarkView) → Type 0
AllTakeSome [] [] = Unit {0}
AllTakeSome (old ∷ olds) (new ∷ news) = TakesSome old new × AllTakeSome olds news
AllTakeSome [] (new ∷ news) = ⊥
AllTakeSome (old ∷ olds) [] = ⊥

-- of each stream 64 marks were taken, or none is known to be left, or its accepted marks cover all times before `end`
abbrev pub AllStopTaking : List Stream → ℤ → List (TokenConsumer MarkView) → List (TokenConsumer MarkView) → Type 0
AllStopTaking [] end olds news = Unit {0}
AllStopTaking (stream ∷ streams) end [] news = Unit {0}
AllStopTaking (stream ∷ streams) end (old ∷ olds) [] = Unit {0}
AllStopTaking (stream ∷ streams) end (old ∷ olds) (new ∷ news) =
    ((taken : ℕ) × (length (received new.ring) ≡ length (received old.ring) + taken) × StopsTaking taken new stream (accepted_marks (format_of stream) (received new.ring)) end)
    × AllStopTaking streams end olds news

-- marks were taken from the rings of all streams: `taken` in all; `strange` of them were not accepted
pub record TakesAllMarks (olds news : List (TokenConsumer MarkView)) (m w : MixerState) (taken strange : ℕ) : Type 0 where
  pub all : AllTakeSome olds news
  pub count : length news ≡ length olds
  pub lanes : length w.lanes ≡ length m.lanes
  pub spec : w.packer.spec ≡ m.packer.spec
  pub total : received_total news ≡ received_total olds + taken
  pub stands : (studio : Studio) (number : ℕ) → HasFeeds studio m (accepted_feeds studio.streams olds) number → HasFeeds studio w (accepted_feeds studio.streams news) number
  pub strange_are : (studio : Studio) (number : ℕ) → HasFeeds studio m (accepted_feeds studio.streams olds) number
      → accepted_total (accepted_feeds studio.streams news) + strange ≡ accepted_total (accepted_feeds studio.streams olds) + taken
  pub stop : (studio : Studio) (number : ℕ) → HasFeeds studio m (accepted_feeds studio.streams olds) number
      → AllStopTaking studio.streams (block_start studio.output (number + 1)) olds news
