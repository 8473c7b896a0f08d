use Rattle.std.proofs.lemmas.Grind.{elements}
use Rattle.std.proofs.Common.{arith}
use Rattle.engine_run.proofs.report.push_faults.Goals as goal

pub returns : goal.returns
returns c = grind (arith, elements)
