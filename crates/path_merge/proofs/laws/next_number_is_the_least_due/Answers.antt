use Rattle.path_merge.proofs.LawLemmas.{least_due}
use Rattle.path_merge.proofs.DueLemmas.{next_number-rises}
use Rattle.path_merge.proofs.laws.next_number_is_the_least_due.Goals as goal

pub returns-clause-least : goal.returns-clause-least
returns-clause-least c stream anchor time some = least_due stream anchor time some

pub returns-clause-rising : goal.returns-clause-rising
returns-clause-rising c stream anchor from to some le = next_number-rises stream anchor from to some le
