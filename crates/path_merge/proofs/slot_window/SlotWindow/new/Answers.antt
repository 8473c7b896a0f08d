use Rattle.std.proofs.lemmas.Grind.{common_steps, elements}
use Rattle.std.proofs.Common.{◌≡◌, arith, ap, ◌∙◌}
use Rattle.path_merge.specs.SlotWindow.{SlotRing}
use Rattle.path_merge.proofs.SlotWindowLemmas.{held_is, made_ring, made_slot, slot_of}
use Rattle.path_merge.proofs.slot_window.SlotWindow.new.Goals as goal

pub invariant_of-result : goal.invariant_of-result
invariant_of-result c =
    let all : c.loop.counter ≡ c.window-width.result = omega (arith, c.loop-test.false, c.loop.auto.counter-end) in
    rw (c.loop.invariant.empty, all, c.window-width.ensures.value) (made_ring c.args.spec.now.window c.window-width.ensures.sound.broad c.window-width.ensures.sound.narrow)

pub returns-clause-empty : goal.returns-clause-empty
returns-clause-empty c n =
    let ring : SlotRing = record { base = 0; front = 0; span = 0; slots = c.loop.slots.items } in
    held_is ring n ∙ ap (λ slots. slot_of (record { base = 0; front = 0; span = 0; slots = slots }) n) c.loop.invariant.empty ∙ made_slot c.loop.counter n

pub returns-clause-size : goal.returns-clause-size
returns-clause-size c = grind (arith, elements)

pub loop-preserved : goal.loop-preserved
loop-preserved c = grind (arith, common_steps)
