use Rattle.std.proofs.lemmas.Grind.{elements}
use Rattle.std.proofs.Common.{arith}
use Rattle.studio_mix.proofs.mixer.Mixer.has_space.Goals as goal

pub returns : goal.returns
returns c = grind (arith, elements)
