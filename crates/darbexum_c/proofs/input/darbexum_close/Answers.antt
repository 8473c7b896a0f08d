-- The handle's engine is the one that was closed.
use Rattle.std.proofs.Common.{sym, ◌∙◌, w32}
use Rattle.std.proofs.lemmas.Int.{to_z-of_z}
use Rattle.darbexum_c.proofs.Moved.{moved}
use Rattle.darbexum_c.proofs.input.darbexum_close.Goals as goal

pub returns-clause-stands : goal.returns-clause-stands
returns-clause-stands c is =
    let back = to_z-of_z w32 c.close-answer.result (record { sfits = c.close-answer.type_inv }) in
    moved _ c.args.handle.now.engine c.put.new.self.engine c.in-Some.engine.value c.deref_mut.result.now c.close-answer.new.engine
    c.in-Some.ensures.value c.deref_mut.ensures.value c.put.ensures (c.close-answer.ensures.stands (sym back ∙ is))
