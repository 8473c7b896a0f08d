use Rattle.pcap_replay.proofs.ImportLinesLemmas.{import_said}
use Rattle.pcap_replay.proofs.laws.a_replay_takes_its_import.Goals as goal

pub returns : goal.returns
returns c = λ studio routes packets opened lines space short. import_said studio routes packets opened lines space short
