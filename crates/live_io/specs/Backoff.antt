-- The attempts of a socket that fails.
use Rattle.std.specs.Prelude.{◌*◌, ℕ, zero, suc, min, ℤ, ◌≤ℤ◌, Option, Some, None}

-- the time from the last of this many faults to the next attempt, in sampling instants: a millisecond after the first
-- fault, doubled with each further fault, and a second at most
abbrev pub retry_delay : ℕ → ℕ
retry_delay zero = 0
retry_delay (suc zero) = 48
retry_delay (suc (suc faults)) = min 48000 (2 * retry_delay (suc faults))

-- the number of faults since the last datagram that ends a path
abbrev pub most_faults : ℕ
most_faults = 1000

-- an attempt may be made at this time: at once, or from a time on
abbrev pub IsDueAt : Option ℤ → ℤ → Type 0
IsDueAt None now = Unit {0}
IsDueAt (Some at) now = at ≤ℤ now
