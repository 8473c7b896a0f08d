use Rattle.std.proofs.lemmas.Grind.{elements, common_steps}
use Rattle.std.proofs.Common.{arith}
use Rattle.studio_run.proofs.lines.counts.write_datagram.Goals as goal

pub returns-in_err-make_space-clause-fault : goal.returns-in_err-make_space-clause-fault
returns-in_err-make_space-clause-fault c = grind (arith, elements)

pub returns-clause-ok : goal.returns-clause-ok
returns-clause-ok c = grind (arith, common_steps)
