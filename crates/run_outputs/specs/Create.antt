-- The parts of an output that a run may not have.
use Rattle.std.specs.Prelude.{Option, Some, None, ⊤}

module _ {E M : Type 0} where
  -- both parts of an output are there and have just begun, or there is no output
  abbrev pub BeginsIf : (E → M → Type 0) → Option E → Option M → Type 0
  BeginsIf begins None None = ⊤
  BeginsIf begins None (Some mix) = ⊥
  BeginsIf begins (Some events) None = ⊥
  BeginsIf begins (Some events) (Some mix) = begins events mix
