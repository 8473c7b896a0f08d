use Rattle.rtp_wire.proofs.DatagramLemmas.{IsDatagram-head_octets}
use Rattle.rtp_wire.proofs.SampleLemmas.{back_16, back_24}
use Rattle.rtp_wire.proofs.laws.written_heads_read_back.Goals as goal

pub returns-clause-head : goal.returns-clause-head
returns-clause-head c head payload fits = IsDatagram-head_octets head payload fits

pub returns-clause-sample_of_24_bits : goal.returns-clause-sample_of_24_bits
returns-clause-sample_of_24_bits c v fits = back_24 v fits

pub returns-clause-sample_of_16_bits : goal.returns-clause-sample_of_16_bits
returns-clause-sample_of_16_bits c v fits = back_16 v fits
