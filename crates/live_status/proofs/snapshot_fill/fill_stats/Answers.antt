use Rattle.std.proofs.lemmas.Grind.{common_steps}
use Rattle.std.proofs.Common.{arith}
use Rattle.live_status.proofs.snapshot_fill.fill_stats.Goals as goal

pub returns-clause-paths : goal.returns-clause-paths
returns-clause-paths c = grind (arith, common_steps)
