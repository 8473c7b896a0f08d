use Rattle.std.proofs.lemmas.Grind.{elements}
use Rattle.std.proofs.Common.{arith}
use Rattle.studio_ends.proofs.rings.payload_cell.PayloadCell.set_len.Goals as goal

pub returns-then-self-len : goal.returns-then-self-len
returns-then-self-len c = grind (arith, elements)
