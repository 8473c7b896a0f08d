-- The outcome of a datagram that was passed to a stream.
use Rattle.std.specs.Prelude.{ℕ, ℤ, List}
use Rattle.rtp_stream.specs.declared.stream_spec.Stream.{Stream}
use Rattle.rtp_stream.specs.declared.event.Event.{Event}
use Rattle.rtp_stream.specs.declared.reception.Reception.{Reception}
use Rattle.rtp_stream.specs.declared.reception.Reception.TheVariants.{Sent, Bad, WrongType, WrongLength}
use Rattle.rtp_stream.specs.Reception.{reception_of}
use Rattle.rtp_stream.specs.Fate.{fate_of}
use Rattle.studio_session.specs.Event.{TraceEvent}
use Rattle.studio_session.specs.Session.{stream_history}
use Rattle.studio_session.specs.declared.arrive_outcome.ArriveOutcome.{ArriveOutcome}
use Rattle.studio_session.specs.declared.arrive_outcome.ArriveOutcome.TheVariants.{Offered, Bad as BadOf, WrongType as WrongTypeOf, WrongLength as WrongLengthOf}

-- the number, the timestamp and the fate of a packet after a history, or why the datagram has none
abbrev pub outcome_in : Stream → ℤ → List Event → ℕ → Reception → ArriveOutcome
outcome_in stream open_at events path (Sent packet) = Offered (record { seq = packet.seq; ts = packet.ts; fate = fate_of stream open_at events path packet })
outcome_in stream open_at events path (Bad fault) = BadOf fault
outcome_in stream open_at events path WrongType = WrongTypeOf
outcome_in stream open_at events path WrongLength = WrongLengthOf

-- the outcome of a datagram that comes on a path of a stream after these events of the studio
abbrev pub outcome_of : Stream → ℕ → ℤ → List TraceEvent → ℕ → List ℕ → ArriveOutcome
outcome_of stream number open_at events path octets = outcome_in stream open_at (stream_history stream number events) path (reception_of stream octets)
