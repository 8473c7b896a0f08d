-- Sampling instants of 48 kHz and nanoseconds: three instants are 62,500 nanoseconds.
use Rattle.std.specs.Prelude.{ℕ, ◌+◌, ◌*◌, ◌/◌, ◌^◌, Option, Some, None, nat_lt, if◌then◌else◌}

-- the first nanosecond that isn't before this many sampling instants
abbrev pub nanoseconds_of : ℕ → ℕ
nanoseconds_of instants = (instants * 62500 + 2) / 3

-- the first nanosecond that isn't before this many sampling instants, if 64 bits hold it
abbrev pub nanoseconds_in_64 : ℕ → Option ℕ
nanoseconds_in_64 instants = if nat_lt (nanoseconds_of instants) (2 ^ 64) then Some (nanoseconds_of instants) else None

-- the whole sampling instants in nanoseconds
abbrev pub instants_in : ℕ → ℕ
instants_in nanoseconds = nanoseconds * 3 / 62500
