-- The place in the events to which one stream of a run has come.
use Rattle.std.specs.Prelude.{◌≡◌, ℕ, ◌+◌, ◌-◌, ◌-ℤ◌, ◌<◌, ◌≤◌, true, List, [], ◌∷◌, length, take, drop, ℤ, Option, Some, None, slice_get}
use Rattle.std.specs.Option.{option_to_list}
use Rattle.rtp_stream.specs.declared.stream_spec.Stream.{Stream}
use Rattle.rtp_stream.specs.MarkFacts.{MarkView}
use Rattle.path_merge.specs.MergeState.{MergeState}
use Rattle.path_merge.specs.declared.goal.Goal.{Goal}
use Rattle.path_merge.specs.declared.goal.Goal.TheVariants.{End, Tick as ToTick}
use Rattle.path_merge.specs.Goal.{CanReach, next_to}
use Rattle.path_merge.specs.Steps.{marks_left}
use Rattle.rtp_stream.specs.Marks.{marks_of}
use Rattle.rtp_stream.specs.History.{is_well_timed}
use Rattle.studio_session.specs.Event.{TraceEvent, Arrival}
use Rattle.lane_align.specs.Lane.{natural}
use Rattle.studio_session.specs.Session.{stream_history}
use Rattle.rtp_stream.specs.PathCounts.{PathTally}
use Rattle.studio_session.specs.Counts.{AreTallies}
use Rattle.studio_session.specs.ReadingSteps.{IsOnWay}

pub record CursorState : Type 0 where
  pub spec : Stream
  pub number : ℕ
  pub merge : MergeState
  pub tallies : List PathTally
  pub place : ℕ
  pub reading : Option ℤ

-- the cursor, with this number of events taken
abbrev pub at_place : ℕ → CursorState → CursorState
at_place place cursor = record cursor { place = place }

-- the goal for the marks of the events that were taken: a reading that is still to be reached, or the end
abbrev pub goal_of : Option ℤ → Goal
goal_of (Some u) = ToTick u
goal_of None = End

-- no path was offered more datagrams than this number of events
abbrev pub HaveFew : ℕ → List PathTally → Type 0
HaveFew place tallies = (path : ℕ) (tally : PathTally) → slice_get tallies path ≡ Some tally → tally.offered ≤ place

pub record IsCursor (cursor : CursorState) : Type 0 where
  pub spec : cursor.merge.spec ≡ cursor.spec
  pub four : length cursor.tallies ≡ 4
  pub few : HaveFew cursor.place cursor.tallies
  pub can : CanReach cursor.merge (goal_of cursor.reading)

-- a cursor took and counted the first events, up to its place, and returned the first `k` marks of them
pub record HasPulled (stream : Stream) (number : ℕ) (open_at : ℤ) (events : List TraceEvent) (cursor : CursorState) (k : ℕ) : Type 0 where
  pub spec : cursor.spec ≡ stream
  pub stream_number : cursor.number ≡ number
  pub within : cursor.place ≤ length events
  pub counted : AreTallies stream number (take cursor.place events) cursor.tallies
  pub stands : IsOnWay stream open_at cursor.merge cursor.reading (stream_history stream number (take cursor.place events)) k

-- the clock readings among the events of a stream are in order
pub record IsRunnable (stream : Stream) (number : ℕ) (open_at : ℤ) (events : List TraceEvent) : Type 0 where
  pub some_frames : 0 < stream.frames
  pub well_timed : is_well_timed open_at (stream_history stream number events) ≡ true

-- the arrivals of a stream are on paths that it has
pub record HasPaths (stream : Stream) (number : ℕ) (events : List TraceEvent) : Type 0 where
  pub paths : (place path : ℕ) (octets : List ℕ) → slice_get events place ≡ Some (Arrival number path octets) → path < stream.paths

-- all that a cursor needs of events: its place is among them, and its arrivals are on paths that the stream has
pub record IsReadyFor (events : List TraceEvent) (cursor : CursorState) : Type 0 where
  pub within : cursor.place ≤ length events
  pub paths : HasPaths cursor.spec cursor.number events

-- the same stream, at the same place, with the same tallies
pub record IsSameCursor (old new : CursorState) : Type 0 where
  pub spec : new.spec ≡ old.spec
  pub number : new.number ≡ old.number
  pub tallies : new.tallies ≡ old.tallies
  pub place : new.place ≡ old.place

-- how far a merge is from a reading that it still has to reach, or else how many marks it has left; then the same of a
-- cursor, and the number of events that a cursor has left
abbrev pub way_to : MergeState → Option ℤ → ℕ
way_to merge (Some u) = natural (u -ℤ merge.time)
way_to merge None = marks_left merge

abbrev pub way_left : CursorState → ℕ
way_left cursor = way_to cursor.merge cursor.reading

abbrev pub events_left : List TraceEvent → CursorState → ℕ
events_left events cursor = length events - cursor.place

-- the next mark of the events that a cursor took
abbrev pub next_of : CursorState → Option MarkView
next_of cursor = next_to cursor.merge (goal_of cursor.reading)

-- the mark that a cursor returned, if there is one, is the next mark of the events that it took
pub record IsOnTheWay (stream : Stream) (number : ℕ) (open_at : ℤ) (events : List TraceEvent) (cursor : CursorState) (k : ℕ) (given : Option MarkView) : Type 0 where
  pub mark : (m : MarkView) → given ≡ Some m → m ∷ [] ≡ take 1 (drop k (marks_of stream open_at (stream_history stream number (take cursor.place events))))
  pub stands : HasPulled stream number open_at events cursor (k + length (option_to_list given))
