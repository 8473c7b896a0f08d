-- The handle's engine is the one that was drained.
use Rattle.std.proofs.Common.{sym, ◌∙◌, w64}
use Rattle.std.proofs.lemmas.Int.{to_z-of_z}
use Rattle.darbexum_c.proofs.Moved.{moved}
use Rattle.darbexum_c.proofs.input.darbexum_drain.Goals as goal

pub returns-clause-none : goal.returns-clause-none
returns-clause-none c is =
    let back = to_z-of_z w64 c.drain-answer.result (record { sfits = c.drain-answer.type_inv }) in
    moved _ c.args.handle.now.engine c.put.new.self.engine c.in-Some.engine.value c.deref_mut.result.now c.drain-answer.new.engine
    c.in-Some.ensures.value c.deref_mut.ensures.value c.put.ensures (c.drain-answer.ensures.none (sym back ∙ is))
