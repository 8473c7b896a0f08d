-- The handle's engine is the one that was turned.
use Rattle.std.proofs.Common.{◌<ℤ◌, pos, nat_abs, subst, sym, ◌∙◌, w64}
use Rattle.std.proofs.lemmas.Int.{to_z-of_z}
use Rattle.studio_engine.specs.Session.{Gives, turned}
use Rattle.darbexum_c.proofs.Moved.{moved}
use Rattle.darbexum_c.proofs.input.darbexum_turn.Goals as goal

pub returns-clause-none : goal.returns-clause-none
returns-clause-none c is =
    let back = to_z-of_z w64 c.turn-answer.result (record { sfits = c.turn-answer.type_inv }) in
    moved _ c.args.handle.now.engine c.put.new.self.engine c.in-Some.engine.value c.deref_mut.result.now c.turn-answer.new.engine
    c.in-Some.ensures.value c.deref_mut.ensures.value c.put.ensures (c.turn-answer.ensures.none (sym back ∙ is))

pub returns-clause-there : goal.returns-clause-there
returns-clause-there c is =
    let back = to_z-of_z w64 c.turn-answer.result (record { sfits = c.turn-answer.type_inv }) in
    moved _ c.args.handle.now.engine c.put.new.self.engine c.in-Some.engine.value c.deref_mut.result.now c.turn-answer.new.engine
    c.in-Some.ensures.value c.deref_mut.ensures.value c.put.ensures
    (λ studio events datagrams s. let there = c.turn-answer.ensures.there (sym back ∙ is) studio events datagrams s in (there.0, there.1 ∙ to_z-of_z w64 c.args.now c.ranges.now))

pub returns-clause-some : goal.returns-clause-some
returns-clause-some c positive =
    let back = to_z-of_z w64 c.turn-answer.result (record { sfits = c.turn-answer.type_inv }) in
    moved _ c.args.handle.now.engine c.put.new.self.engine c.in-Some.engine.value c.deref_mut.result.now c.turn-answer.new.engine
    c.in-Some.ensures.value c.deref_mut.ensures.value c.put.ensures
    (λ studio events datagrams s.
    subst (λ z. Gives studio c.turn-answer.new.engine (turned c.deref_mut.result.now.time c.turn-answer.new.engine.time events) datagrams c.args.out.now c.turn-answer.new.out (nat_abs z)) (sym back)
    (c.turn-answer.ensures.some (subst (λ z. pos 0 <ℤ z) back positive) studio events datagrams s))
