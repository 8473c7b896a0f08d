use Rattle.pcap_file.proofs.PacketLemmas.{checksum_right}
use Rattle.pcap_file.proofs.laws.checksums_are_right.Goals as goal

pub returns : goal.returns
returns c = checksum_right
