use Rattle.std.proofs.lemmas.Grind.{common_steps}
use Rattle.std.proofs.Common.{arith}
use Rattle.rtp_stats.proofs.tally.new_entries.Goals as goal

pub loop-preserved : goal.loop-preserved
loop-preserved c = grind (arith, common_steps)
