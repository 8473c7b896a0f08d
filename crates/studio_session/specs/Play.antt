-- A session: its streams' merges, and the mixer that takes their marks.
use Rattle.std.specs.Prelude.{◌≡◌, ◌⊎◌, ℕ, suc, ◌+◌, ◌<◌, true, List, [], ◌∷◌, ◌++◌, length, take, drop, slice_get, slice_set, ℤ, Some, None, All}
use Rattle.rtp_stream.specs.declared.stream_spec.Stream.{Stream}
use Rattle.rtp_stream.specs.StreamSpecFacts.{format_of}
use Rattle.rtp_stream.specs.MarkFacts.{MarkView}
use Rattle.rtp_stream.specs.MarkList.{is_mark_list}
use Rattle.rtp_stream.specs.Marks.{marks_of}
use Rattle.lane_align.specs.Cover.{covers, cover_of}
use Rattle.mix_packets.specs.Block.{block_start}
use Rattle.studio_config.specs.Studio.{Studio}
use Rattle.studio_mix.specs.Feed.{Feed}
use Rattle.studio_mix.specs.Mixer.{MixerState, HasFeeds}
use Rattle.studio_session.specs.Event.{TraceEvent}
use Rattle.studio_session.specs.Session.{stream_history}
use Rattle.studio_session.specs.Cursor.{CursorState, HasPaths, HasPulled, IsRunnable}

-- a session as contracts see it
pub record SessionState : Type 0 where
  pub mixer : MixerState
  pub cursors : List CursorState

-- a session has a cursor for each lane of its mixer
pub record IsSession (session : SessionState) : Type 0 where
  pub cursors : length session.cursors ≡ length session.mixer.lanes

-- all marks of a stream
abbrev pub stream_marks : Stream → ℕ → ℤ → List TraceEvent → List MarkView
stream_marks stream number open_at events = marks_of stream open_at (stream_history stream number events)

-- all marks of each of these streams, which are numbered from `number` on
abbrev pub feeds_from : ℤ → List TraceEvent → ℕ → List Stream → List Feed
feeds_from open_at events number [] = []
feeds_from open_at events number (stream ∷ streams) =
    record { stream = stream; marks = stream_marks stream number open_at events } ∷ feeds_from open_at events (suc number) streams

-- all marks of a studio's streams
abbrev pub feeds_of : Studio → List TraceEvent → List Feed
feeds_of studio events = feeds_from studio.open_at events 0 studio.streams

-- the clock readings among the events of each stream are in order
pub record IsRunnableBy (studio : Studio) (events : List TraceEvent) : Type 0 where
  pub some_frames : 0 < studio.output.frames
  pub each : (i : ℕ) (stream : Stream) → slice_get studio.streams i ≡ Some stream → IsRunnable stream i studio.open_at events

-- each stream's arrivals are on paths that it has
pub record HasPathsBy (studio : Studio) (events : List TraceEvent) : Type 0 where
  pub each : (i : ℕ) (stream : Stream) → slice_get studio.streams i ≡ Some stream → HasPaths stream i events

-- there is a cursor for each of the first `count` streams, before the first event
pub record AreNew (streams : List Stream) (open_at : ℤ) (cursors : List CursorState) (count : ℕ) : Type 0 where
  pub count_is : length cursors ≡ count
  pub settled : All (λ (cursor : CursorState). cursor.reading ≡ None) cursors
  pub each : (i : ℕ) (cursor : CursorState) (stream : Stream) → slice_get cursors i ≡ Some cursor → slice_get streams i ≡ Some stream
      → (cursor.place ≡ 0) × ((events : List TraceEvent) → HasPulled stream i open_at events cursor 0)

-- the marks that a stream's cursor returned are the first of all marks of the stream
pub record IsGiven (number : ℕ) (open_at : ℤ) (events : List TraceEvent) (cursor : CursorState) (feed : Feed) : Type 0 where
  pub pulled : HasPulled feed.stream number open_at events cursor (length feed.marks)
  pub first : feed.marks ≡ take (length feed.marks) (stream_marks feed.stream number open_at events)

-- the mixer was fed the marks that the cursors returned, and the block `next` is its next one
pub record HasPlayed (studio : Studio) (events : List TraceEvent) (session : SessionState) (next : ℕ) : Type 0 where
  pub feeds : List Feed
  pub fed : HasFeeds studio session.mixer feeds next
  pub count : length session.cursors ≡ length feeds
  pub given : (i : ℕ) (cursor : CursorState) (feed : Feed) → slice_get session.cursors i ≡ Some cursor → slice_get feeds i ≡ Some feed
      → IsGiven i studio.open_at events cursor feed

-- the mixer took this mark of a stream, provided that it may follow the marks that the stream was fed before
abbrev pub TakesMark : MixerState → MixerState → ℕ → MarkView → Type 0
TakesMark old new number mark = (studio : Studio) (feeds : List Feed) (next : ℕ) (feed : Feed)
    → HasFeeds studio old feeds next → slice_get feeds number ≡ Some feed → is_mark_list (format_of feed.stream) (feed.marks ++ mark ∷ []) ≡ true
    → HasFeeds studio new (slice_set feeds number (record { stream = feed.stream; marks = feed.marks ++ mark ∷ [] })) next

-- the mixer was fed the marks that the cursor of one stream returned, and the marks in `feeds` for the other streams
pub record Plays (studio : Studio) (events : List TraceEvent) (feeds : List Feed) (next number : ℕ) (mixer : MixerState) (cursor : CursorState) : Type 0 where
  pub feed : Feed
  pub fed : HasFeeds studio mixer (slice_set feeds number feed) next
  pub given : IsGiven number studio.open_at events cursor feed

-- `Plays`, and the stream's cursor returned all marks of the events that it took
pub record PlaysOut (studio : Studio) (events : List TraceEvent) (feeds : List Feed) (next number : ℕ) (mixer : MixerState) (cursor : CursorState) : Type 0 where
  pub plays : Plays studio events feeds next number mixer cursor
  pub none : [] ≡ take 1 (drop (length plays.feed.marks) (stream_marks plays.feed.stream number studio.open_at (take cursor.place events)))

-- the marks of a feed cover the next block to its end, or they are all marks of the stream
abbrev pub IsFinal : Studio → List TraceEvent → ℕ → ℕ → Feed → Type 0
IsFinal studio events next number feed =
    (covers (cover_of (format_of feed.stream) feed.marks) (block_start studio.output (next + 1)) ≡ true)
    ⊎ (feed.marks ≡ stream_marks feed.stream number studio.open_at events)

-- `Plays`, and the mixer was fed all marks of the stream that the next block needs
pub record PlaysFinal (studio : Studio) (events : List TraceEvent) (feeds : List Feed) (next number : ℕ) (mixer : MixerState) (cursor : CursorState) : Type 0 where
  pub plays : Plays studio events feeds next number mixer cursor
  pub final : IsFinal studio events next number plays.feed

-- the mixer was fed all marks of the first `count` streams that the next block needs
pub record HasFilled (studio : Studio) (events : List TraceEvent) (session : SessionState) (next count : ℕ) : Type 0 where
  pub played : HasPlayed studio events session next
  pub final : (i : ℕ) (feed : Feed) → i < count → slice_get played.feeds i ≡ Some feed → IsFinal studio events next i feed
