use Rattle.std.proofs.lemmas.Grind.{elements}
use Rattle.std.proofs.Common.{arith}
use Rattle.studio_config.proofs.config.schedule.check_change.Goals as goal

pub returns-clause-fault : goal.returns-clause-fault
returns-clause-fault c = grind (arith, elements)

pub returns-clause-ok : goal.returns-clause-ok
returns-clause-ok c = grind (arith, elements)
