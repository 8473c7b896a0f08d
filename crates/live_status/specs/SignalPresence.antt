-- The condition of a stream, by the time at which its last packet was taken.
use Rattle.std.specs.Prelude.{ℕ, Bool, true, false, ℤ, pos, ◌+ℤ◌, int_le, ◌==◌, if◌then◌else◌}
use Rattle.status_page.specs.declared.snapshot.Condition.{Condition}
use Rattle.status_page.specs.declared.snapshot.Condition.TheVariants.{NoPacket, Running, SignalLost, Ended}

-- a second has passed since then
abbrev pub is_silent : ℤ → ℤ → Bool
is_silent since now = int_le (since +ℤ pos 48000) now

-- the condition of a stream, by its end, by the number of its packets taken, and by whether none was taken in the last
-- second
abbrev pub condition_of : Bool → ℕ → Bool → Condition
condition_of true taken silent = Ended
condition_of false taken silent = if taken == 0 then NoPacket else (if silent then SignalLost else Running)
