-- The handle's engine is the one that took the change.
use Rattle.std.proofs.Common.{ℤ, sym, subst, ◌∙◌, w32, w64}
use Rattle.std.proofs.lemmas.Int.{to_z-of_z}
use Rattle.studio_mix.specs.Changed.{with_gains}
use Rattle.studio_engine.specs.Session.{HasGivenReady, HasSession}
use Rattle.darbexum_c.proofs.Moved.{moved}
use Rattle.darbexum_c.proofs.input.darbexum_change_gains.Goals as goal

pub returns-clause-stands : goal.returns-clause-stands
returns-clause-stands c is =
    let back = to_z-of_z w32 c.change_gains-answer.result (record { sfits = c.change_gains-answer.type_inv }) in
    moved _ c.args.handle.now.engine c.put.new.self.engine c.in-Some.engine.value c.deref_mut.result.now c.change_gains-answer.new.engine
    c.in-Some.ensures.value c.deref_mut.ensures.value c.put.ensures
    (λ studio events datagrams s.
    subst (λ (at : ℤ). HasSession (with_gains studio at c.args.gains.now) c.change_gains-answer.new.engine events datagrams) (to_z-of_z w64 c.args.at c.ranges.at)
    (c.change_gains-answer.ensures.stands (sym back ∙ is) studio events datagrams s))

pub returns-clause-ready : goal.returns-clause-ready
returns-clause-ready c is =
    let back = to_z-of_z w32 c.change_gains-answer.result (record { sfits = c.change_gains-answer.type_inv }) in
    moved _ c.args.handle.now.engine c.put.new.self.engine c.in-Some.engine.value c.deref_mut.result.now c.change_gains-answer.new.engine
    c.in-Some.ensures.value c.deref_mut.ensures.value c.put.ensures
    (λ studio events datagrams s.
    subst (λ (at : ℤ). HasGivenReady (with_gains studio at c.args.gains.now) c.change_gains-answer.new.engine events datagrams) (to_z-of_z w64 c.args.at c.ranges.at)
    (c.change_gains-answer.ensures.ready (sym back ∙ is) studio events datagrams s))
