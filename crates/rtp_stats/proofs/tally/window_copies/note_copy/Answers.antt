use Rattle.std.proofs.lemmas.Grind.{elements}
use Rattle.std.proofs.Common.{arith}
use Rattle.rtp_stats.proofs.tally.window_copies.note_copy.Goals as goal

pub returns-clause-missed : goal.returns-clause-missed
returns-clause-missed c = grind (arith, elements)
