use Rattle.path_merge.proofs.ClockLagLemmas.{keep_up}
use Rattle.path_merge.proofs.LentLemmas.{lent_is_due}
use Rattle.path_merge.proofs.laws.marks_keep_up_with_the_clock.Goals as goal

pub returns-clause-history : goal.returns-clause-history
returns-clause-history c stream open_at events some still = keep_up stream open_at events some still

pub returns-clause-borrowed : goal.returns-clause-borrowed
returns-clause-borrowed c stream open_at now merge events k mark some at free is = lent_is_due stream open_at now merge events k some at free mark is
