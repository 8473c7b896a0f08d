use Rattle.std.proofs.lemmas.Grind.{elements}
use Rattle.std.proofs.Common.{arith}
use Rattle.studio_ends.proofs.rings.mark_cell.MarkCell.as_ref.Goals as goal

pub slot-requires-clause-time : goal.slot-requires-clause-time
slot-requires-clause-time c = grind (arith, elements)

pub quiet-requires : goal.quiet-requires
quiet-requires c = grind (arith, elements)

pub slot-requires-in-Lost-clause-time : goal.slot-requires-in-Lost-clause-time
slot-requires-in-Lost-clause-time c = grind (arith, elements)

pub slot-requires-clause-len : goal.slot-requires-clause-len
slot-requires-clause-len c = grind (arith, elements)
