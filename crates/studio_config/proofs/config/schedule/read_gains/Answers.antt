use Rattle.std.proofs.lemmas.Grind.{elements}
use Rattle.std.proofs.Common.{arith}
use Rattle.studio_config.proofs.config.schedule.read_gains.Goals as goal

pub returns-in-Err : goal.returns-in-Err
returns-in-Err c = grind (arith, elements)
