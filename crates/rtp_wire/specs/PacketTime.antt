-- The number of sampling instants that one packet carries (AES67, 7.2).
use Rattle.std.specs.Prelude.{ℕ, Bool, ◌||◌, nat_eq}

-- 125 us, 250 us, 1/3 ms, 1 ms and 4 ms at 48 kHz
abbrev pub is_packet_time : ℕ → Bool
is_packet_time frames = nat_eq frames 6 || (nat_eq frames 12 || (nat_eq frames 16 || (nat_eq frames 48 || nat_eq frames 192)))
