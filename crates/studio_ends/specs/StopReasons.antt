-- Why a turn stopped.
use Rattle.std.specs.Prelude.{◌≡◌, ℕ, ℤ}
use Rattle.studio_ends.specs.declared.stream_end.marks_out.StopReason.{StopReason}
use Rattle.studio_ends.specs.declared.stream_end.marks_out.StopReason.TheVariants.{CaughtUp, Batch, NoRoom}

-- a turn stops for CaughtUp only at the time `now`, for Batch only after 64 marks, for NoRoom only if no free place is
-- known
abbrev pub StopsFor : StopReason → ℤ → ℤ → ℕ → ℕ → Type 0
StopsFor CaughtUp reached now marks free = reached ≡ now
StopsFor Batch reached now marks free = marks ≡ 64
StopsFor NoRoom reached now marks free = free ≡ 0
