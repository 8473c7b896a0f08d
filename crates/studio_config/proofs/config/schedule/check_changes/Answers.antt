use Rattle.std.proofs.lemmas.Grind.{common_steps}
use Rattle.std.proofs.Common.{arith}
use Rattle.studio_config.proofs.config.schedule.check_changes.Goals as goal

pub loop-number-preserved : goal.loop-number-preserved
loop-number-preserved c = grind (arith, common_steps)

pub returns-in_err-check_change-clause-fault : goal.returns-in_err-check_change-clause-fault
returns-in_err-check_change-clause-fault c = grind (arith, common_steps)
