-- The clock readings that are refused.
use Rattle.std.specs.Prelude.{ℤ, pos, ◌^◌, Bool, int_lt, Option, Some, None, if◌then◌else◌}
use Rattle.path_merge.specs.declared.clock.ClockFault.{ClockFault}
use Rattle.path_merge.specs.declared.clock.ClockFault.TheVariants.{WentBack, TooFar, Closed}

-- the first fault of a clock reading
abbrev pub clock_fault_of : ℤ → Bool → ℤ → Option ClockFault
clock_fault_of time closed now =
    if int_lt now time then Some WentBack else if int_lt (pos (2 ^ 60)) now then Some TooFar else if closed then Some Closed else None
