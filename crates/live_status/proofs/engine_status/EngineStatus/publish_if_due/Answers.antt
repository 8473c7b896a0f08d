use Rattle.std.proofs.lemmas.Grind.{elements}
use Rattle.std.proofs.Common.{arith}
use Rattle.live_status.proofs.engine_status.EngineStatus.publish_if_due.Goals as goal

pub returns-then-is_due-clause-shown : goal.returns-then-is_due-clause-shown
returns-then-is_due-clause-shown c = grind (arith, elements)

pub returns-else-is_due-clause-shown : goal.returns-else-is_due-clause-shown
returns-else-is_due-clause-shown c = grind (arith, elements)
