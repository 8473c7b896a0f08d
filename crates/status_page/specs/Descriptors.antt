-- The descriptors that clients of the page may have.
use Rattle.std.specs.Prelude.{ℕ, ◌+◌, Bool, true, nat_lt, Option, Some, None}

-- there is no limit that is known, or the descriptor is below the limit minus 8
abbrev pub is_left_to_clients : Option ℕ → ℕ → Bool
is_left_to_clients None descriptor = true
is_left_to_clients (Some limit) descriptor = nat_lt (descriptor + 8) limit
