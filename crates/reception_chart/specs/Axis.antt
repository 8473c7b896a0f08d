-- Media time in spans of one length.
use Rattle.std.specs.Prelude.{ℕ, ◌-◌, ◌/◌, ℤ, ◌-ℤ◌, int_le, unsigned_abs, min, if◌then◌else◌}

-- the length from one time to another; 0 if the second is not later
abbrev pub length_between : ℤ → ℤ → ℕ
length_between first last = if int_le last first then 0 else unsigned_abs (last -ℤ first)

-- the span that a time is in, out of `count` spans of one length; times outside are in the first or the last span
abbrev pub span_of : ℤ → ℕ → ℕ → ℤ → ℕ
span_of first span count time = min (length_between first time / span) (count - 1)
