use Rattle.studio_run.proofs.LawLemmas.{gain_set, others_kept}
use Rattle.studio_run.proofs.gains.laws.one_gain_changes_alone.Goals as goal

pub returns-clause-gain : goal.returns-clause-gain
returns-clause-gain c = gain_set

pub returns-clause-others : goal.returns-clause-others
returns-clause-others c = others_kept
