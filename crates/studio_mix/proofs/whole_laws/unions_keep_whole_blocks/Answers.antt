use Rattle.studio_mix.proofs.WholeLemmas.{union_missing, union_datagram}
use Rattle.studio_mix.proofs.whole_laws.unions_keep_whole_blocks.Goals as goal

pub returns-clause-missing : goal.returns-clause-missing
returns-clause-missing c = union_missing

pub returns-clause-datagram : goal.returns-clause-datagram
returns-clause-datagram c = union_datagram
