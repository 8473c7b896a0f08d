-- The handle's engine is the one that was read.
use Rattle.std.proofs.Common.{sym, ◌∙◌, w32}
use Rattle.std.proofs.lemmas.Int.{to_z-of_z}
use Rattle.darbexum_c.proofs.Moved.{seen}
use Rattle.darbexum_c.proofs.record_calls.darbexum_stream.Goals as goal

pub returns-clause-stands : goal.returns-clause-stands
returns-clause-stands c is =
    let back = to_z-of_z w32 c.write_stream-answer.result (record { sfits = c.write_stream-answer.type_inv }) in
    seen _ c.args.handle.now.engine c.in-Some.engine.value c.deref.result.now c.in-Some.ensures.value c.deref.ensures (c.write_stream-answer.ensures.stands (sym back ∙ is))
