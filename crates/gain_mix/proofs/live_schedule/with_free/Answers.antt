use Rattle.std.proofs.lemmas.Grind.{elements}
use Rattle.std.proofs.Common.{sym, subst, ◌∙◌, ◌+◌, arith}
use Rattle.gain_mix.specs.LiveSchedule.{HasFree}
use Rattle.gain_mix.proofs.LiveScheduleLemmas.{HasFree-more, HasFree-none}
use Rattle.gain_mix.proofs.live_schedule.with_free.Goals as goal

pub loop-init : goal.loop-init
loop-init c = HasFree-none c.args.schedule.now.first c.args.schedule.now.later c.in_ok-slots.slots.items c.later.ensures.sound (c.in_ok-slots.ensures ∙ c.later.ensures.changes)

pub loop-preserved : goal.loop-preserved
loop-preserved c =
    subst (λ slots. HasFree c.args.schedule.now.first c.args.schedule.now.later slots (c.loop.counter + 1)) (sym c.in_ok-push.ensures.items)
    (HasFree-more c.args.schedule.now.first c.args.schedule.now.later c.loop.slots.items c.loop.counter _ c.in_ok-matrix.matrix c.loop.invariant (c.in_ok-matrix.ensures ∙ c.first.ensures))

pub returns-clause-free : goal.returns-clause-free
returns-clause-free c = grind (arith, elements)
