-- An engine that took changes of gains.
use Rattle.std.specs.Prelude.{◌≡◌, ℕ, ℤ, List, ◌++◌}
use Rattle.studio_config.specs.Studio.{Studio}
use Rattle.studio_mix.specs.Changed.{with_changes}
use Rattle.studio_session.specs.Event.{TraceEvent}
use Rattle.studio_engine.specs.Engine.{EngineState}
use Rattle.studio_engine.specs.Session.{HasSession}

-- the engine has a session of the studio with exactly the changes of gains that were taken from `before` to `after`
pub record HasTakenChanges (studio : Studio) (engine : EngineState) (events : List TraceEvent) (datagrams : List (List ℕ)) (before after : List (ℤ × List ℤ)) : Type 0 where
  pub changes : List (ℤ × List ℤ)
  pub taken : after ≡ before ++ changes
  pub stands : HasSession (with_changes studio changes) engine events datagrams
