-- The handle's engine is the one that took the datagram.
use Rattle.std.proofs.Common.{◌≤ℤ◌, ◌∙◌, pos, subst, w32}
use Rattle.std.proofs.lemmas.Int.{to_z-of_z}
use Rattle.darbexum_c.proofs.Moved.{moved, seen}
use Rattle.darbexum_c.proofs.input.darbexum_arrive.Goals as goal

pub returns-clause-stands : goal.returns-clause-stands
returns-clause-stands c low =
    let back = to_z-of_z w32 c.arrive-answer.result (record { sfits = c.arrive-answer.type_inv }) in
    moved _ c.args.handle.now.engine c.put.new.self.engine c.in-Some.engine.value c.deref_mut.result.now c.arrive-answer.new.engine
    c.in-Some.ensures.value c.deref_mut.ensures.value c.put.ensures (c.arrive-answer.ensures.stands (subst (λ r. pos 0 ≤ℤ r) back low))

pub returns-clause-outcome : goal.returns-clause-outcome
returns-clause-outcome c low =
    let back = to_z-of_z w32 c.arrive-answer.result (record { sfits = c.arrive-answer.type_inv }) in
    seen _ c.args.handle.now.engine c.in-Some.engine.value c.deref_mut.result.now c.in-Some.ensures.value c.deref_mut.ensures.value
    (λ studio events datagrams spec s at. back ∙ c.arrive-answer.ensures.outcome (subst (λ r. pos 0 ≤ℤ r) back low) studio events datagrams spec s at)
