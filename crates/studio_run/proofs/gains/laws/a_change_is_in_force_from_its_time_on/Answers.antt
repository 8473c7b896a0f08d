use Rattle.studio_run.proofs.LawLemmas.{in_force_before, in_force_from}
use Rattle.studio_run.proofs.gains.laws.a_change_is_in_force_from_its_time_on.Goals as goal

pub returns-clause-from : goal.returns-clause-from
returns-clause-from c = in_force_from

pub returns-clause-before : goal.returns-clause-before
returns-clause-before c = in_force_before
