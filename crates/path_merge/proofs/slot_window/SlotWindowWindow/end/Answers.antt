use Rattle.std.proofs.Common.{◌+◌, ◌-◌, IsSome, arith, subst, sym}
use Rattle.path_merge.specs.SlotWindow.{SlotRing}
use Rattle.path_merge.proofs.SlotWindowLemmas.{held_is, last_held, past_end}
use Rattle.path_merge.proofs.slot_window.SlotWindowWindow.end.Goals as goal

pub returns-clause-past_all : goal.returns-clause-past_all
returns-clause-past_all c =
    let ring : SlotRing = record { base = c.self.inside.base; front = c.self.inside.front; span = c.self.inside.span; slots = c.self.inside.slots.items } in
    rw (← c.self.view_is) (λ n some. past_end ring c.self.invariant n (subst IsSome (held_is ring n) some))

pub returns-clause-reached : goal.returns-clause-reached
returns-clause-reached c =
    let ring : SlotRing = record { base = c.self.inside.base; front = c.self.inside.front; span = c.self.inside.span; slots = c.self.inside.slots.items } in
    rw (← c.self.view_is) (λ more. subst IsSome (sym (held_is ring (c.self.inside.base + c.self.inside.span - 1))) (last_held ring c.self.invariant (omega (arith, more))))
