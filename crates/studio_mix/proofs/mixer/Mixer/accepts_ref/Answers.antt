use Rattle.std.proofs.lemmas.Grind.{elements}
use Rattle.std.proofs.Common.{arith}
use Rattle.studio_mix.proofs.mixer.Mixer.accepts_ref.Goals as goal

pub returns-clause-stands : goal.returns-clause-stands
returns-clause-stands c = grind (arith, elements)

pub returns-clause-value : goal.returns-clause-value
returns-clause-value c = grind (arith, elements)
