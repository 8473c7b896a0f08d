-- Counts that are watched, and the packets of a path that arrived in time.
use Rattle.std.specs.Prelude.{ℕ, ◌+◌, ◌-◌, ◌^◌, min, Bool, ◌==◌, ℤ, pos, ◌+ℤ◌, int_le, if◌then◌else◌}
use Rattle.status_page.specs.declared.snapshot.CopyCounts.{CopyCounts}
use Rattle.live_status.specs.declared.reception_watch.count_watch.CountWatch.{CountWatch}

-- a count, with the time since which it has not changed
abbrev pub count_after : ℕ → ℤ → CountWatch → CountWatch
count_after count now watch = if count == watch.count then watch else record { count = count; since = now }

-- the count has not changed for this time
abbrev pub is_unchanged_for : ℕ → CountWatch → ℤ → Bool
is_unchanged_for span watch now = int_le (watch.since +ℤ pos span) now

-- the count has not changed for two seconds
abbrev pub is_still : CountWatch → ℤ → Bool
is_still watch now = is_unchanged_for 96000 watch now

-- the sum in a counter of 64 bits
abbrev pub sum_in_64_bits : ℕ → ℕ → ℕ
sum_in_64_bits a b = min (a + b) (2 ^ 64 - 1)

-- the packets of a path that arrived in time: first copies and further ones
abbrev pub in_time_of : ℕ → CopyCounts → ℕ
in_time_of first copies = sum_in_64_bits (sum_in_64_bits first copies.double) copies.unlike
