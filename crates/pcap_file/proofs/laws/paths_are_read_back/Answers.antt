use Rattle.pcap_file.proofs.WriteInterfaceLemmas.{gains_back, path_back}
use Rattle.pcap_file.proofs.laws.paths_are_read_back.Goals as goal

pub returns : goal.returns
returns c = record { path = path_back; gains = gains_back }
