use Rattle.studio_mix.proofs.WholeLemmas.{silent_samples}
use Rattle.studio_mix.proofs.whole_laws.empty_blocks_are_silent.Goals as goal

pub returns : goal.returns
returns c = record { samples = silent_samples }
