use Rattle.std.proofs.lemmas.Grind.{elements}
use Rattle.std.proofs.Common.{arith}
use Rattle.studio_mix.proofs.interleave.lay_stream.Goals as goal

pub returns-then-channels-eq1-clause-laid : goal.returns-then-channels-eq1-clause-laid
returns-then-channels-eq1-clause-laid c = grind (arith, elements)
