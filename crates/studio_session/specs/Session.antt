-- The events of a studio as one of its streams sees them.
use Rattle.std.specs.Prelude.{ℕ, Bool, false, ◌&&◌, nat_eq, ℤ, List, [], ◌∷◌, flat_map, count_by, if◌then◌else◌}
use Rattle.rtp_stream.specs.declared.stream_spec.Stream.{Stream}
use Rattle.rtp_stream.specs.declared.event.Event.{Event}
use Rattle.rtp_stream.specs.declared.event.Event.TheVariants.{Arrive, Tick as StreamTick, Close}
use Rattle.rtp_stream.specs.Reception.{reception_of}
use Rattle.studio_session.specs.Event.{TraceEvent, Arrival, Tick, Closing}
use Rattle.rtp_stream.specs.declared.reception.Reception.{Reception}
use Rattle.rtp_stream.specs.declared.reception.Reception.TheVariants.{Sent, Bad, WrongType, WrongLength}

-- what an event is to one stream: another stream's datagram, a datagram on one of its own paths, a clock reading, or
-- the close
pub data Step : Type 0 where
  Other : Step
  Datagram : ℕ → Reception → Step
  Clock : ℤ → Step
  End : Step

abbrev pub step_of : Stream → ℕ → TraceEvent → Step
step_of stream number (Arrival s path octets) = if nat_eq s number then Datagram path (reception_of stream octets) else Other
step_of stream number (Tick time) = Clock time
step_of stream number Closing = End

-- the events of the stream's history that a step adds: none for another stream's datagram, or one that is not a packet
-- of the stream
abbrev pub event_in : Step → List Event
event_in Other = []
event_in (Datagram path (Sent packet)) = Arrive path packet ∷ []
event_in (Datagram path (Bad fault)) = []
event_in (Datagram path WrongType) = []
event_in (Datagram path WrongLength) = []
event_in (Clock time) = StreamTick time ∷ []
event_in End = Close ∷ []

-- the history of one stream
abbrev pub stream_history : Stream → ℕ → List TraceEvent → List Event
stream_history stream number events = flat_map (λ event. event_in (step_of stream number event)) events

-- whether a step is a datagram on this path whose reception passes the test; `received_on` counts these
abbrev pub is_on : (Reception → Bool) → ℕ → Step → Bool
is_on test path (Datagram p reception) = nat_eq p path && test reception
is_on test path Other = false
is_on test path (Clock time) = false
is_on test path End = false

abbrev pub received_on : (Reception → Bool) → Stream → ℕ → ℕ → List TraceEvent → ℕ
received_on test stream number path events = count_by (λ event. is_on test path (step_of stream number event)) events
