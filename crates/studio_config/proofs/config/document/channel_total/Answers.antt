use Rattle.std.proofs.lemmas.Grind.{common_steps}
use Rattle.std.proofs.Common.{arith}
use Rattle.studio_config.proofs.config.document.channel_total.Goals as goal

pub loop-stream-preserved : goal.loop-stream-preserved
loop-stream-preserved c = grind (arith, common_steps)
