-- The change that a call makes to the engine of a handle.
use Rattle.std.specs.Prelude.{Option, None, Some}
use Rattle.studio_engine.specs.Engine.{EngineState}

-- there is an engine before and after, and this relation holds between them
abbrev pub Moves : Option EngineState → Option EngineState → (EngineState → EngineState → Type 0) → Type 0
Moves (Some before) (Some after) relation = relation before after
Moves (Some before) None relation = ⊥
Moves None after relation = ⊥
