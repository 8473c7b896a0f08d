use Rattle.pcap_replay.proofs.RecordPacketsLemmas.{changes_said, kept_same, run_said, run_unchanged}
use Rattle.pcap_replay.proofs.laws.a_record_says_its_run.Goals as goal

pub returns : goal.returns
returns c = record {
  events = λ studio longest steps packets closing low none rising recorded. run_said studio longest low steps packets closing none rising recorded;
  changes = λ studio longest steps packets closing low none recorded. changes_said studio longest low steps packets closing none recorded;
  same = kept_same;
  unchanged = run_unchanged;
}
