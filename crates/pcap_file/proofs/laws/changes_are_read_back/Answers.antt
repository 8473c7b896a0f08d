use Rattle.pcap_file.proofs.ChangeLemmas.{change_back}
use Rattle.pcap_file.proofs.laws.changes_are_read_back.Goals as goal

pub returns : goal.returns
returns c = change_back
