-- The result of a run.
use Rattle.std.specs.Prelude.{◌≡◌, ℕ, List, [], length, take, drop, map, slice_get, ℤ, Some}
use Rattle.rtp_stream.specs.declared.stream_spec.Stream.{Stream}
use Rattle.rtp_stream.specs.CountsFacts.{Tally}
use Rattle.rtp_stream.specs.Counts.{counts_of, tally_of}
use Rattle.studio_config.specs.Studio.{Studio}
use Rattle.rtp_stream.specs.declared.stream_counts.StreamCounts.{StreamCounts}
use Rattle.studio_session.specs.Event.{TraceEvent}
use Rattle.studio_session.specs.Session.{stream_history}
use Rattle.rtp_stream.specs.PathCounts.{path_tally_of}
use Rattle.studio_session.specs.Counts.{AreTallies, path_tallies}
use Rattle.studio_session.specs.Cursor.{CursorState, HasPulled}
use Rattle.studio_session.specs.Play.{stream_marks}

-- the counts of a stream's merge once all its marks were returned
abbrev pub merge_tally_of : Stream → ℕ → ℤ → List TraceEvent → Tally
merge_tally_of stream number open_at events = counts_of stream open_at (stream_history stream number events) (stream_marks stream number open_at events)

-- the counts of a stream: of each of its paths, and of its merge
pub record AreCountsOf (stream : Stream) (number : ℕ) (open_at : ℤ) (events : List TraceEvent) (counts : StreamCounts) : Type 0 where
  pub paths : map path_tally_of counts.paths.items ≡ path_tallies stream number events stream.paths
  pub merge : tally_of counts.merge ≡ merge_tally_of stream number open_at events

-- the counts of each stream of a studio
pub record AreCounts (studio : Studio) (events : List TraceEvent) (counts : List StreamCounts) : Type 0 where
  pub count : length counts ≡ length studio.streams
  pub each : (i : ℕ) (stream : Stream) (c : StreamCounts) → slice_get studio.streams i ≡ Some stream → slice_get counts i ≡ Some c → AreCountsOf stream i studio.open_at events c

-- the counts of a cursor are those of its stream after all events and all marks
pub record HasCounts (stream : Stream) (number : ℕ) (open_at : ℤ) (events : List TraceEvent) (cursor : CursorState) : Type 0 where
  pub spec : cursor.spec ≡ stream
  pub stream_number : cursor.number ≡ number
  pub paths : AreTallies stream number events cursor.tallies
  pub merge : cursor.merge.counts ≡ merge_tally_of stream number open_at events

-- a cursor took the events up to its place, and returned some marks of them
pub record HasPulledSome (stream : Stream) (number : ℕ) (open_at : ℤ) (events : List TraceEvent) (cursor : CursorState) : Type 0 where
  pub given : ℕ
  pub pulled : HasPulled stream number open_at events cursor given

-- a cursor took the events up to its place, and returned all marks of them
pub record HasPulledAll (stream : Stream) (number : ℕ) (open_at : ℤ) (events : List TraceEvent) (cursor : CursorState) : Type 0 where
  pub given : ℕ
  pub pulled : HasPulled stream number open_at events cursor given
  pub none : [] ≡ take 1 (drop given (stream_marks stream number open_at (take cursor.place events)))

-- each stream's cursor took the events up to its place, and returned some marks of them
pub record ArePulled (studio : Studio) (events : List TraceEvent) (cursors : List CursorState) : Type 0 where
  pub count : length cursors ≡ length studio.streams
  pub each : (i : ℕ) (stream : Stream) (cursor : CursorState) → slice_get studio.streams i ≡ Some stream → slice_get cursors i ≡ Some cursor → HasPulledSome stream i studio.open_at events cursor
