use Rattle.std.proofs.lemmas.Grind.{elements}
use Rattle.std.proofs.Common.{arith}
use Rattle.studio_config.proofs.config.output.read_numbers.Goals as goal

pub returns-clause-start : goal.returns-clause-start
returns-clause-start c = grind (arith, elements)

pub returns-clause-ssrc : goal.returns-clause-ssrc
returns-clause-ssrc c = grind (arith, elements)
