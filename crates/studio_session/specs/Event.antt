-- The events of the streams of a studio.
use Rattle.std.specs.Prelude.{ℕ, ℤ, List}
use Rattle.studio_session.specs.declared.event.StudioEvent.{StudioEvent}
use Rattle.studio_session.specs.declared.event.StudioEvent.TheVariants.{Arrive, Tick as StudioTick, Close}
use Rattle.studio_session.specs.declared.event.EventHeader.{EventHeader}
use Rattle.studio_session.specs.declared.event.EventHeader.TheVariants.{Arrive as ArriveOf, Tick as TickOf, Close as CloseOf}

-- an event as contracts see it: an arrival's stream, path and octets, a clock reading, or the close
pub data TraceEvent : Type 0 where
  Arrival : ℕ → ℕ → List ℕ → TraceEvent
  Tick : ℤ → TraceEvent
  Closing : TraceEvent

-- an event in memory, as contracts see it
abbrev pub said_by : StudioEvent → TraceEvent
said_by (Arrive stream path octets) = Arrival stream path octets.items
said_by (StudioTick time) = Tick time
said_by Close = Closing

-- the header of an event: the event without the octets
abbrev pub outline_of : TraceEvent → EventHeader
outline_of (Arrival stream path octets) = ArriveOf stream path
outline_of (Tick time) = TickOf time
outline_of Closing = CloseOf
