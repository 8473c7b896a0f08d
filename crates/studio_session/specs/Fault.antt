-- The first event of a studio that has a fault.
use Rattle.std.specs.Prelude.{◌≡◌, ℕ, suc, Bool, true, false, nat_lt, List, [], ◌∷◌, slice_get, ℤ, Option, Some, None, if◌then◌else◌}
use Rattle.rtp_stream.specs.declared.stream_spec.Stream.{Stream}
use Rattle.rtp_stream.specs.History.{is_tick_in_order}
use Rattle.studio_config.specs.Studio.{Studio}
use Rattle.studio_session.specs.Event.{TraceEvent, outline_of}
use Rattle.studio_session.specs.declared.event.EventHeader.{EventHeader}
use Rattle.studio_session.specs.declared.event.EventHeader.TheVariants.{Arrive, Tick, Close}
use Rattle.studio_session.specs.declared.fault.StudioFault.{StudioFault}
use Rattle.studio_session.specs.declared.fault.StudioFault.TheVariants.{Clock, Stream as NoStream, Path as NoPath, Memory}

-- the fault of an arrival: the studio does not have the stream, or the stream does not have the path
abbrev pub path_fault : ℕ → Option Stream → ℕ → Option StudioFault
path_fault place None path = Some (NoStream place)
path_fault place (Some stream) path = if nat_lt path stream.paths then None else Some (NoPath place)

abbrev pub clock_fault : ℕ → Bool → Option StudioFault
clock_fault place true = None
clock_fault place false = Some (Clock place)

-- the fault of the event at a place, by the time before it and by whether there was a close
abbrev pub outline_fault : List Stream → ℕ → ℤ → Bool → EventHeader → Option StudioFault
outline_fault streams place time closed (Arrive stream path) = path_fault place (slice_get streams stream) path
outline_fault streams place time closed (Tick u) = clock_fault place (is_tick_in_order time closed u)
outline_fault streams place time closed Close = None

abbrev pub time_past : ℤ → EventHeader → ℤ
time_past time (Arrive stream path) = time
time_past time (Tick u) = u
time_past time Close = time

abbrev pub closed_past : Bool → EventHeader → Bool
closed_past closed (Arrive stream path) = closed
closed_past closed (Tick u) = closed
closed_past closed Close = true

-- the fault of an event with its octets, the time after it, and whether there was a close by then
abbrev pub event_fault : List Stream → ℕ → ℤ → Bool → TraceEvent → Option StudioFault
event_fault streams place time closed event = outline_fault streams place time closed (outline_of event)

abbrev pub time_after : ℤ → TraceEvent → ℤ
time_after time event = time_past time (outline_of event)

abbrev pub closed_after : Bool → TraceEvent → Bool
closed_after closed event = closed_past closed (outline_of event)

-- the last clock reading among these events, or the time before them if there is none
abbrev pub time_at : ℤ → List TraceEvent → ℤ
time_at time [] = time
time_at time (event ∷ events) = time_at (time_after time event) events

-- there was a close, before these events or among them
abbrev pub closed_at : Bool → List TraceEvent → Bool
closed_at closed [] = closed
closed_at closed (event ∷ events) = closed_at (closed_after closed event) events

abbrev pub or_later : Option StudioFault → Option StudioFault → Option StudioFault
or_later (Some fault) later = Some fault
or_later None later = later

-- the first fault of the events from a place on
abbrev pub session_fault_from : List Stream → ℕ → ℤ → Bool → List TraceEvent → Option StudioFault
session_fault_from streams place time closed [] = None
session_fault_from streams place time closed (event ∷ events) =
    or_later (event_fault streams place time closed event) (session_fault_from streams (suc place) (time_after time event) (closed_after closed event) events)

-- the first fault of the events: a clock reading out of order, a stream that the studio does not have, or a path that
-- the stream does not have
abbrev pub session_fault_of : Studio → List TraceEvent → Option StudioFault
session_fault_of studio events = session_fault_from studio.streams 0 studio.open_at false events

-- why a run returns no report: the first fault of its events, or an allocation failure if no event has a fault
abbrev pub IsRunFault : Studio → List TraceEvent → StudioFault → Type 0
IsRunFault studio events (Clock place) = session_fault_of studio events ≡ Some (Clock place)
IsRunFault studio events (NoStream place) = session_fault_of studio events ≡ Some (NoStream place)
IsRunFault studio events (NoPath place) = session_fault_of studio events ≡ Some (NoPath place)
IsRunFault studio events (Memory e) = session_fault_of studio events ≡ None
