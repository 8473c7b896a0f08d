use Rattle.pcap_replay.proofs.NoChangeLemmas.{flows_change_none, skipped_change_none}
use Rattle.pcap_replay.proofs.laws.other_captures_change_no_gains.Goals as goal

pub returns : goal.returns
returns c = record { flows = flows_change_none; skipped = skipped_change_none }
