-- The gains of a run as its keeper knows them.
use Rattle.std.specs.Prelude.{ℤ, List, length, Option, Some, None}
use Rattle.gain_mix.specs.Gain.{ins_of, rows_of}
use Rattle.gain_mix.specs.Changes.{Changes, rest_at, with_change}
use Rattle.gain_mix.specs.LiveSchedule.{change_fault_of}
use Rattle.gain_mix.specs.declared.live_schedule.ChangeFault.{ChangeFault}

-- a schedule in use from a time on, after a change with this fault, or with none
abbrev pub after_change : Option ChangeFault → Changes → ℤ → ℤ → List ℤ → Changes
after_change (Some fault) live from at gains = live
after_change None live from at gains = rest_at (with_change live at (rows_of (ins_of live.first) (length live.first) gains)) from

-- the schedule from a time on after a change that the run took then, unless the run could not have taken it
abbrev pub noted : Changes → ℤ → ℤ → List ℤ → Changes
noted schedule from at gains = after_change (change_fault_of (rest_at schedule from) from at gains) (rest_at schedule from) from at gains
