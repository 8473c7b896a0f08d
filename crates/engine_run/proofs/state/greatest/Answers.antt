use Rattle.std.proofs.lemmas.Grind.{common_steps}
use Rattle.std.proofs.Common.{arith}
use Rattle.engine_run.proofs.state.greatest.Goals as goal

pub returns : goal.returns
returns c = grind (arith, common_steps)
