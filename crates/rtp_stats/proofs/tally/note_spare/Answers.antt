use Rattle.std.proofs.lemmas.Grind.{elements}
use Rattle.std.proofs.Common.{arith}
use Rattle.rtp_stats.proofs.tally.note_spare.Goals as goal

pub returns : goal.returns
returns c = grind (arith, elements)
