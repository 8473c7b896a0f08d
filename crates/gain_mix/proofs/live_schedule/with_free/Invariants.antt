use Rattle.gain_mix.specs.LiveSchedule.{HasFree}
use Rattle.gain_mix.proofs.live_schedule.with_free.Given as goal

abbrev pub invariant-loop : goal.invariant-loop
invariant-loop l = HasFree l.schedule.first l.schedule.later l.slots.items l.counter
