use Rattle.std.proofs.Common.{◌≡◌, drop}
use Rattle.gain_mix.specs.Schedule.{is_rising, rises_from}
use Rattle.gain_mix.proofs.schedule.is_rising.Given as goal

abbrev pub invariant-loop-next : goal.invariant-loop-next
invariant-loop-next l = rises_from l.last (drop l.next-index l.rest) ≡ is_rising l.later
