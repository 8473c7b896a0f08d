-- The handle's engine is the one that was read.
use Rattle.std.proofs.Common.{sym, ◌∙◌, w32}
use Rattle.std.proofs.lemmas.Int.{to_z-of_z}
use Rattle.darbexum_c.proofs.Moved.{seen}
use Rattle.darbexum_c.proofs.record_calls.darbexum_path_counts.Goals as goal

pub returns-clause-value : goal.returns-clause-value
returns-clause-value c is =
    let back = to_z-of_z w32 c.write_path_counts-answer.result (record { sfits = c.write_path_counts-answer.type_inv }) in
    seen _ c.args.handle.now.engine c.in-Some.engine.value c.deref.result.now c.in-Some.ensures.value c.deref.ensures (c.write_path_counts-answer.ensures.value (sym back ∙ is))
