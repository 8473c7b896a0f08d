use Rattle.mix_packets.proofs.BlockLemmas.{IsDatagram-block, payload-only, CountsUp-read}
use Rattle.mix_packets.proofs.laws.datagrams_count_up.Goals as goal

pub returns-clause-read : goal.returns-clause-read
returns-clause-read c = IsDatagram-block

pub returns-clause-payload : goal.returns-clause-payload
returns-clause-payload c = payload-only

pub returns-clause-next : goal.returns-clause-next
returns-clause-next c = CountsUp-read
