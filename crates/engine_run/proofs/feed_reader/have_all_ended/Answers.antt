use Rattle.std.proofs.lemmas.Grind.{elements}
use Rattle.std.proofs.Common.{arith}
use Rattle.engine_run.proofs.feed_reader.have_all_ended.Goals as goal

pub loop-place-preserved : goal.loop-place-preserved
loop-place-preserved c = grind (arith, elements)

pub returns : goal.returns
returns c = grind (arith, elements)
