use Rattle.studio_mix.proofs.WholeLemmas.{whole_samples, whole_datagram, packets_sound}
use Rattle.studio_mix.proofs.whole_laws.whole_blocks_are_the_senders_mix.Goals as goal

pub returns-clause-samples : goal.returns-clause-samples
returns-clause-samples c = whole_samples

pub returns-clause-datagram : goal.returns-clause-datagram
returns-clause-datagram c = whole_datagram

pub returns-clause-packets : goal.returns-clause-packets
returns-clause-packets c = packets_sound
