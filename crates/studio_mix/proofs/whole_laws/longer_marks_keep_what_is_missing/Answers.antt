use Rattle.studio_mix.proofs.LastLemmas.{inputs_longer, missing_in_longer}
use Rattle.studio_mix.proofs.whole_laws.longer_marks_keep_what_is_missing.Goals as goal

pub returns-clause-missing : goal.returns-clause-missing
returns-clause-missing c = missing_in_longer

pub returns-clause-inputs : goal.returns-clause-inputs
returns-clause-inputs c = inputs_longer
