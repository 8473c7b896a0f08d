use Rattle.std.proofs.lemmas.Grind.{elements}
use Rattle.std.proofs.Common.{arith}
use Rattle.live_status.proofs.snapshot_fill.fill_outputs.Goals as goal

pub returns : goal.returns
returns c = grind (arith, elements)

pub loop-channel-preserved : goal.loop-channel-preserved
loop-channel-preserved c = grind (arith, elements)
