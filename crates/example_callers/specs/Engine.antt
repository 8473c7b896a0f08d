-- The datagrams that an engine's caller sent.
use Rattle.std.specs.Prelude.{◌≡◌, ℕ, false, List, ◌++◌, length, Option}
use Rattle.studio_config.specs.Studio.{Studio}
use Rattle.studio_mix.specs.Ready.{is_ready}
use Rattle.studio_session.specs.Event.{TraceEvent}
use Rattle.studio_session.specs.Play.{feeds_of}
use Rattle.studio_engine.specs.Engine.{EngineState}
use Rattle.studio_engine.specs.Session.{HasSession}
use Rattle.studio_io.specs.Sinks.{Hands}

-- after these datagrams the engine returned more, and exactly those were passed to the sink
pub record HasSent (studio : Studio) (engine : EngineState) (events : List TraceEvent) (datagrams : List (List ℕ)) (before after : Option (List (List ℕ))) : Type 0 where
  pub more : List (List ℕ)
  pub stands : HasSession studio engine events (datagrams ++ more)
  pub handed : Hands before more after

-- the engine's datagrams were passed to the sink until no further block was ready
pub record HasSentReady (studio : Studio) (engine : EngineState) (events : List TraceEvent) (datagrams : List (List ℕ)) (before after : Option (List (List ℕ))) : Type 0 where
  pub sent : HasSent studio engine events datagrams before after
  pub none : is_ready studio.output (feeds_of studio events) (length (datagrams ++ sent.more)) ≡ false
