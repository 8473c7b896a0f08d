use Rattle.std.proofs.lemmas.Grind.{elements}
use Rattle.std.proofs.Common.{arith, ap, sym, subst, ◌∙◌, ◌≡◌, take, ◌-◌, true, to_z, of_z, w64}
use Rattle.gain_mix.specs.LiveSchedule.{is_due}
use Rattle.gain_mix.proofs.LiveScheduleLemmas.{HasPassed, HasPassed-more, first_slot}
use Rattle.gain_mix.proofs.live_schedule.LiveSchedule.pass.Goals as goal

pub loop-self-preserved : goal.loop-self-preserved
loop-self-preserved c =
    let t = to_z w64 (of_z w64 c.args.t) in
    let slots = c.loop-self.self-inside.slots.items in
    let used = c.loop-self.self-inside.used in
    let due : is_due (take used slots) t ≡ true = ap (λ s. is_due (take used s) t) (sym c.deref.ensures.value) ∙ sym c.is_first_due.ensures ∙ c.loop-self-test.true in
    let found = first_slot slots (let all = c.loop-self.invariant.all in omega (arith, all)) in
    let slot = found.0 in
    let moved = c.pass_first.ensures slot found.1 in
    subst (λ first. HasPassed t c.args.self.now first c.pass_first.new.slots.items (used - 1)) (sym moved.0)
    (subst (λ slots'. HasPassed t c.args.self.now slot.1 slots' (used - 1)) (sym moved.1)
    (HasPassed-more t c.args.self.now c.loop-self.self-inside.first slots used slot c.loop-self.invariant due found.1))

pub loop-self-init : goal.loop-self-init
loop-self-init c = grind (arith, elements)

pub overflow_sub-self : goal.overflow_sub-self
overflow_sub-self c = grind (arith, elements)

pub loop-self-smaller : goal.loop-self-smaller
loop-self-smaller c = grind (arith, elements)
