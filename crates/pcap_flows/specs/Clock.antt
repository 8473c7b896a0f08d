-- Readings of a clock of 48 kHz at the times of a capture.
use Rattle.std.specs.Prelude.{ℕ, ◌-◌, ◌*◌, ◌/◌, Option, Some, None, unwrap_or, max}
use Rattle.pcap_flows.specs.declared.import.clock.CaptureClock.{CaptureClock}

-- no packet had a time yet: the clock reads 0
abbrev pub clock_begun : CaptureClock
clock_begun = record { origin = None; reading = 0 }

-- the sampling instants in this many nanoseconds, rounded down; a second has 48,000
abbrev pub instants_in : ℕ → ℕ
instants_in nanoseconds = nanoseconds * 3 / 62500

-- the clock at a time, counted from the first time; it never goes back
abbrev pub reading_at : CaptureClock → ℕ → CaptureClock
reading_at clock time = record {
  origin = Some (unwrap_or clock.origin time);
  reading = max clock.reading (instants_in (time - unwrap_or clock.origin time));
}

-- the clock at a datagram's time; a datagram without a time does not move it
unfoldable pub clock_with : CaptureClock → Option ℕ → CaptureClock
clock_with clock None = clock
clock_with clock (Some time) = reading_at clock time
