-- Steps that each use the result of the one before, up to the first that fails.
use Rattle.std.specs.Prelude.{Result, Ok, Err}

-- the result of the second step on the value of the first, or the first fault
abbrev pub and_then : {T U E : Type 0} → Result T E → (T → Result U E) → Result U E
and_then (Ok x) f = f x
and_then (Err e) f = Err e
