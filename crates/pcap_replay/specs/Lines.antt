-- Lines of the datagrams that an engine returns.
use Rattle.std.specs.Prelude.{ℕ, List, ◌++◌, Option}
use Rattle.studio_config.specs.Studio.{Studio}
use Rattle.studio_session.specs.Event.{TraceEvent}
use Rattle.studio_engine.specs.Engine.{EngineState}
use Rattle.studio_engine.specs.Session.{HasSession}
use Rattle.studio_run.specs.Buffer.{BreaksOff, PassesOn}
use Rattle.studio_run.specs.Listing.{datagrams_text}

-- a claim about an observer: that it received these events and these datagrams
abbrev pub Hearing : Type 1
Hearing = List TraceEvent → List (List ℕ) → Type 0

-- an observer that had received the first datagrams, with any events, has now received all of them, with the same
-- events
abbrev pub Tells : Hearing → List (List ℕ) → Hearing → List (List ℕ) → Type 0
Tells heard datagrams heard_then all = (events : List TraceEvent) → heard events datagrams → heard_then events all

-- the engine returned more datagrams, the observer received them, and their lines follow what was held
pub record GivesLines (studio : Studio) (engine : EngineState) (events : List TraceEvent) (datagrams : List (List ℕ)) (written : Option (List ℕ)) (held : List ℕ) (written_then : Option (List ℕ)) (held_then : List ℕ) (heard heard_then : Hearing) : Type 0 where
  pub more : List (List ℕ)
  pub stands : HasSession studio engine events (datagrams ++ more)
  pub wrote : PassesOn written held written_then held_then (datagrams_text more)
  pub told : Tells heard datagrams heard_then (datagrams ++ more)

-- the engine returned more datagrams, the observer received them, and a prefix of their lines was written
pub record BreaksLines (studio : Studio) (engine : EngineState) (events : List TraceEvent) (datagrams : List (List ℕ)) (written : Option (List ℕ)) (held : List ℕ) (written_then : Option (List ℕ)) (heard heard_then : Hearing) : Type 0 where
  pub more : List (List ℕ)
  pub stands : HasSession studio engine events (datagrams ++ more)
  pub broke : BreaksOff written held written_then (datagrams_text more)
  pub told : Tells heard datagrams heard_then (datagrams ++ more)
