use Rattle.gain_mix.proofs.LiveScheduleLemmas.{HasPassed}
use Rattle.gain_mix.proofs.live_schedule.LiveSchedule.pass.Given as goal

abbrev pub invariant-loop-self : goal.invariant-loop-self
invariant-loop-self l = HasPassed l.t l.fn.self l.self-inside.first l.self-inside.slots.items l.self-inside.used

abbrev pub decreases-loop-self : goal.decreases-loop-self
decreases-loop-self l = l.self-inside.used
