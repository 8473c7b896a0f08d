-- Why a replay stops at an event: the event's fault, and the number of the events before it.
use Rattle.std.specs.Prelude.{◌≡◌, ◌<◌, ℕ, ◌^◌, List, length, ℤ, pos, ◌+ℤ◌, ◌≤ℤ◌, Option, Some}
use Rattle.rtp_stream.specs.declared.stream_spec.Stream.{Stream}
use Rattle.studio_config.specs.Studio.{Studio}
use Rattle.studio_session.specs.Event.{TraceEvent}
use Rattle.studio_session.specs.Fault.{path_fault, session_fault_of, time_at}
use Rattle.studio_session.specs.declared.fault.StudioFault.{StudioFault}
use Rattle.studio_session.specs.declared.fault.StudioFault.TheVariants.{Stream as NoStream, Path as NoPath}
use Rattle.studio_engine.specs.declared.fault.ArriveFault.{ArriveFault}
use Rattle.studio_engine.specs.declared.fault.ArriveFault.TheVariants as arrive
use Rattle.pcap_replay.specs.declared.fault.ReplayFault.{ReplayFault}
use Rattle.pcap_replay.specs.declared.fault.ReplayFault.TheVariants.{Memory, Capture, Run as RunOf, Change, Jump, TooManyEvents, Write}

-- if a replay stops at the fault of an event, that is the first fault of these events; if it stops at too many events,
-- these are more than 2^62
abbrev pub IsFirstFault : Studio → List TraceEvent → ReplayFault → Type 0
IsFirstFault studio events Memory = Unit {0}
IsFirstFault studio events (Capture fault) = Unit {0}
IsFirstFault studio events (RunOf fault) = session_fault_of studio events ≡ Some fault
IsFirstFault studio events (Change number kind) = Unit {0}
IsFirstFault studio events (Jump place seconds) = Unit {0}
IsFirstFault studio events TooManyEvents = 2 ^ 62 < length events
IsFirstFault studio events Write = Unit {0}

-- the number of these events. It is small: each arrival comes before the 2^62nd event, and each reading moves the time on
pub record IsCount (open_at : ℤ) (events : List TraceEvent) (count : ℕ) : Type 0 where
  pub whole : count ≡ length events
  pub few : pos count ≤ℤ (pos (2 ^ 62) +ℤ time_at open_at events)
  pub not_early : pos 0 ≤ℤ time_at open_at events

-- the fault of a datagram at a place among the events, by the reason why the engine does not take it
abbrev pub refused_at : ℕ → ArriveFault → ReplayFault
refused_at place arrive.Unfinished = TooManyEvents
refused_at place arrive.Stream = RunOf (NoStream place)
refused_at place arrive.Path = RunOf (NoPath place)
refused_at place arrive.Full = TooManyEvents

-- the fault of an event at a place on a path of this stream, which does not have the path or does not exist
abbrev pub IsPathFault : ℕ → ℕ → Option Stream → ReplayFault → Type 0
IsPathFault place path stream fault = (reason : StudioFault) × (fault ≡ RunOf reason) × (path_fault place stream path ≡ Some reason)

-- the fault is that of an event, or there are too many events
abbrev pub IsOfEvent : ReplayFault → Type 0
IsOfEvent Memory = ⊥
IsOfEvent (Capture fault) = ⊥
IsOfEvent (RunOf fault) = Unit {0}
IsOfEvent (Change number kind) = ⊥
IsOfEvent (Jump place seconds) = ⊥
IsOfEvent TooManyEvents = Unit {0}
IsOfEvent Write = ⊥

-- the fault is that of an event, or a write failed
abbrev pub IsOfTurn : ReplayFault → Type 0
IsOfTurn Memory = ⊥
IsOfTurn (Capture fault) = ⊥
IsOfTurn (RunOf fault) = Unit {0}
IsOfTurn (Change number kind) = ⊥
IsOfTurn (Jump place seconds) = ⊥
IsOfTurn TooManyEvents = ⊥
IsOfTurn Write = Unit {0}

-- the fault is that of a change of gains
abbrev pub IsOfChange : ReplayFault → Type 0
IsOfChange Memory = ⊥
IsOfChange (Capture fault) = ⊥
IsOfChange (RunOf fault) = ⊥
IsOfChange (Change number kind) = Unit {0}
IsOfChange (Jump place seconds) = ⊥
IsOfChange TooManyEvents = ⊥
IsOfChange Write = ⊥
