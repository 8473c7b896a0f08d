use Rattle.studio_mix.proofs.LawLemmas.{ready_longer, datagram_longer, ready_covered}
use Rattle.studio_mix.proofs.laws.ready_blocks_stay.Goals as goal

pub returns-clause-ready : goal.returns-clause-ready
returns-clause-ready c = ready_longer

pub returns-clause-datagram : goal.returns-clause-datagram
returns-clause-datagram c = datagram_longer

pub returns-clause-covered : goal.returns-clause-covered
returns-clause-covered c = ready_covered
