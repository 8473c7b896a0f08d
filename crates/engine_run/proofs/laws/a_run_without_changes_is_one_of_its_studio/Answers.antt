use Rattle.engine_run.proofs.GainRequestLemmas.{settled-same, settled-unchanged}
use Rattle.engine_run.proofs.laws.a_run_without_changes_is_one_of_its_studio.Goals as goal

pub returns-clause-none : goal.returns-clause-none
returns-clause-none c = settled-unchanged

pub returns-clause-same : goal.returns-clause-same
returns-clause-same c = settled-same
