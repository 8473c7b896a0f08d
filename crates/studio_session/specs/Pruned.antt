-- The events of a studio without the clock readings that are directly followed by another reading.
use Rattle.std.specs.Prelude.{◌≡◌, ℕ, Bool, true, false, List, [], ◌∷◌, Some, None, slice_get, if◌then◌else◌}
use Rattle.rtp_stream.specs.declared.stream_counts.StreamCounts.{StreamCounts}
use Rattle.rtp_stream.specs.declared.stream_spec.Stream.{Stream}
use Rattle.studio_config.specs.Studio.{Studio}
use Rattle.studio_session.specs.Event.{TraceEvent, Arrival, Tick, Closing}
use Rattle.studio_session.specs.Fault.{session_fault_of}
use Rattle.studio_session.specs.Counts.{path_counts_of}
use Rattle.studio_session.specs.Report.{AreCounts, merge_tally_of}
use Rattle.studio_session.specs.Run.{AreDatagrams}

-- the first event is a clock reading
abbrev pub begin_with_tick : List TraceEvent → Bool
begin_with_tick [] = false
begin_with_tick (Arrival stream path octets ∷ events) = false
begin_with_tick (Tick time ∷ events) = true
begin_with_tick (Closing ∷ events) = false

-- the events without each clock reading that is directly followed by another reading
abbrev pub pruned_events : List TraceEvent → List TraceEvent
pruned_events [] = []
pruned_events (Arrival stream path octets ∷ events) = Arrival stream path octets ∷ pruned_events events
pruned_events (Tick time ∷ events) = if begin_with_tick events then pruned_events events else Tick time ∷ pruned_events events
pruned_events (Closing ∷ events) = Closing ∷ pruned_events events

-- `others` have no fault, and both lists of events lead to the same datagrams and to the same counts of each path and
-- merge
pub record IsSameRun (studio : Studio) (events others : List TraceEvent) : Type 0 where
  pub no_fault : session_fault_of studio others ≡ None
  pub paths : (i path : ℕ) (stream : Stream) → slice_get studio.streams i ≡ Some stream → path_counts_of stream i path events ≡ path_counts_of stream i path others
  pub merges : (i : ℕ) (stream : Stream) → slice_get studio.streams i ≡ Some stream → merge_tally_of stream i studio.open_at events ≡ merge_tally_of stream i studio.open_at others
  pub datagrams : (datagrams : List (List ℕ)) → AreDatagrams studio events datagrams → AreDatagrams studio others datagrams
  pub datagrams_back : (datagrams : List (List ℕ)) → AreDatagrams studio others datagrams → AreDatagrams studio events datagrams
  pub counts : (counts : List StreamCounts) → AreCounts studio events counts → AreCounts studio others counts
  pub counts_back : (counts : List StreamCounts) → AreCounts studio others counts → AreCounts studio events counts
