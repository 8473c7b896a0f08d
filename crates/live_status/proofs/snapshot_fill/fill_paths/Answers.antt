use Rattle.std.proofs.lemmas.Grind.{elements}
use Rattle.std.proofs.Common.{arith}
use Rattle.live_status.proofs.snapshot_fill.fill_paths.Goals as goal

pub returns : goal.returns
returns c = grind (arith, elements)

pub loop-place-preserved : goal.loop-place-preserved
loop-place-preserved c = grind (arith, elements)
