-- A run of a merge over a whole list of events.
use Rattle.std.specs.Prelude.{◌≡◌, ◌<◌, List, length, ℤ, Some, None}
use Rattle.rtp_stream.specs.declared.stream_spec.Stream.{Stream}
use Rattle.rtp_stream.specs.StreamSpec.{Fits}
use Rattle.rtp_stream.specs.MarkFacts.{MarkView}
use Rattle.rtp_stream.specs.declared.event.Event.{Event}
use Rattle.rtp_stream.specs.declared.event.Event.TheVariants.{Arrive, Tick, Close}
use Rattle.path_merge.specs.declared.event_list.RunFault.{RunFault}
use Rattle.path_merge.specs.declared.event_list.RunFault.TheVariants.{Clock, Memory}
use Rattle.rtp_stream.specs.History.{first_clock_fault}
use Rattle.rtp_stream.specs.Marks.{marks_of}
use Rattle.path_merge.specs.MergeState.{MergeState}
use Rattle.path_merge.specs.Merge.{HasHistory}
use Rattle.path_merge.specs.Clock.{clock_fault_of}

-- an event that a stream can have: a packet has the stream's length, and comes in on one of the stream's paths
abbrev pub IsEventOf : Stream → Event → Type 0
IsEventOf stream (Arrive path packet) = (path < stream.paths) × Fits stream packet
IsEventOf stream (Tick u) = Unit {0}
IsEventOf stream Close = Unit {0}

-- an event that the merge takes: any but a clock reading that is out of order
abbrev pub IsInOrder : MergeState → Event → Type 0
IsInOrder m (Arrive path packet) = Unit {0}
IsInOrder m (Tick u) = clock_fault_of m.time m.closed u ≡ None
IsInOrder m Close = Unit {0}

-- this history leads to the merge, which has returned exactly these marks
pub record HasGiven (stream : Stream) (open_at : ℤ) (m : MergeState) (events : List Event) (marks : List MarkView) : Type 0 where
  pub stands : HasHistory stream open_at m events (length marks)
  pub all : marks ≡ marks_of stream open_at events

-- the meaning of a run's fault: a clock reading is out of order, first at this place, or an allocation failed
abbrev pub IsRunFault : ℤ → List Event → RunFault → Type 0
IsRunFault open_at events (Clock place) = first_clock_fault open_at events ≡ Some place
IsRunFault open_at events (Memory error) = first_clock_fault open_at events ≡ None
