-- An engine that took a list of events.
use Rattle.std.specs.Prelude.{◌≡◌, ℕ, Bool, true, false, List, [], ◌∷◌, ◌++◌, length, drop, ℤ, None, if◌then◌else◌}
use Rattle.std.specs.Ordering.{int_eq}
use Rattle.mix_packets.specs.OutSpec.{datagram_length}
use Rattle.studio_config.specs.Studio.{Studio}
use Rattle.studio_mix.specs.Ready.{is_ready}
use Rattle.studio_session.specs.Event.{TraceEvent, Tick, Closing}
use Rattle.studio_session.specs.Fault.{closed_at, session_fault_of, time_at}
use Rattle.studio_session.specs.Play.{IsRunnableBy, feeds_of}
use Rattle.studio_session.specs.Run.{HasGivenBlocks}
use Rattle.studio_engine.specs.Engine.{EngineState, session_of}
use Rattle.studio_engine.specs.Give.{HasNoMore}
use Rattle.studio_engine.specs.Near.{HasCapacities}

-- the engine of this studio, with space in its lanes, took these events, none of which has a fault, and returned these
-- datagrams: those of the first blocks, each of which is ready
pub record HasSession (studio : Studio) (engine : EngineState) (events : List TraceEvent) (datagrams : List (List ℕ)) : Type 0 where
  pub lawful : session_fault_of studio events ≡ None
  pub runnable : IsRunnableBy studio events
  pub time : engine.time ≡ time_at studio.open_at events
  pub closed : engine.closed ≡ closed_at false events
  pub count : engine.count ≡ length events
  pub capacities : HasCapacities studio engine.mixer
  pub given : HasGivenBlocks studio events (session_of engine) datagrams
  pub settled : engine.settled ≡ true → HasNoMore studio given.played.feeds (length datagrams)

-- the engine returned one more datagram, at the start of the buffer
pub record Gives (studio : Studio) (engine : EngineState) (events : List TraceEvent) (datagrams : List (List ℕ)) (before after : List ℕ) (len : ℕ) : Type 0 where
  pub datagram : List ℕ
  pub len_is : len ≡ datagram_length studio.output
  pub written : after ≡ datagram ++ drop len before
  pub stands : HasSession studio engine events (datagrams ++ datagram ∷ [])

-- the engine returned the datagrams of all blocks that are ready
pub record HasGivenReady (studio : Studio) (engine : EngineState) (events : List TraceEvent) (datagrams : List (List ℕ)) : Type 0 where
  pub stands : HasSession studio engine events datagrams
  pub none : is_ready studio.output (feeds_of studio events) (length datagrams) ≡ false

-- the events after a turn that took the time from `old` to `new`: a turn that does not change the time adds no event
abbrev pub turned : ℤ → ℤ → List TraceEvent → List TraceEvent
turned old new events = if int_eq old new then events else events ++ Tick new ∷ []

-- the events after a close: a second close adds no event
abbrev pub shut : Bool → List TraceEvent → List TraceEvent
shut true events = events
shut false events = events ++ Closing ∷ []
