use Rattle.std.proofs.lemmas.Grind.{common_steps}
use Rattle.std.proofs.Common.{arith}
use Rattle.live_gains.proofs.kept_text.push_lines.Goals as goal

pub returns : goal.returns
returns c = grind (arith, common_steps)
