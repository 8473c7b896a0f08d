-- The datagrams of an engine that were sent.
use Rattle.std.specs.Prelude.{◌≡◌, ℕ, ◌+◌, ◌<◌, ◌^◌, List, ◌++◌, length, Option}
use Rattle.studio_config.specs.Studio.{Studio}
use Rattle.studio_session.specs.Event.{TraceEvent}
use Rattle.studio_engine.specs.Engine.{EngineState}
use Rattle.studio_engine.specs.Session.{HasSession}
use Rattle.studio_io.specs.Sinks.{Hands}

-- the engine returned further datagrams after these. Exactly the further ones were passed to the sink, and each was
-- counted
pub record HasSent (studio : Studio) (engine : EngineState) (events : List TraceEvent) (datagrams : List (List ℕ)) (before after : Option (List (List ℕ))) (old new : ℕ) : Type 0 where
  pub more : List (List ℕ)
  pub stands : HasSession studio engine events (datagrams ++ more)
  pub count : old + length more < 2 ^ 64 → new ≡ old + length more
  pub handed : Hands before more after
