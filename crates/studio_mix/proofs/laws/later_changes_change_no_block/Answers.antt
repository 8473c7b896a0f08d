use Rattle.studio_mix.proofs.ChangedLemmas.{datagram_unchanged, saturated_unchanged}
use Rattle.studio_mix.proofs.laws.later_changes_change_no_block.Goals as goal

pub returns-clause-datagram : goal.returns-clause-datagram
returns-clause-datagram c = λ studio feeds number at gains early. datagram_unchanged studio feeds number at _ early

pub returns-clause-saturated : goal.returns-clause-saturated
returns-clause-saturated c = λ studio feeds number counts at gains early counted. saturated_unchanged studio feeds number counts at _ early counted
