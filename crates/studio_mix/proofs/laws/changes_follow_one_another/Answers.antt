use Rattle.studio_mix.proofs.ChangedLemmas.{with_changes-more, with_changes-none}
use Rattle.studio_mix.proofs.laws.changes_follow_one_another.Goals as goal

pub returns-clause-none : goal.returns-clause-none
returns-clause-none c = with_changes-none

pub returns-clause-more : goal.returns-clause-more
returns-clause-more c = with_changes-more
