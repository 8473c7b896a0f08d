use Rattle.pcap_file.proofs.WrittenRecordLemmas.{closed_entries, closed_gains_entries, closed_gains_packets, closed_packets, open_entries, open_gains_entries, open_gains_packets, open_packets}
use Rattle.pcap_file.proofs.laws.records_are_read_back.Goals as goal

pub returns : goal.returns
returns c = record {
  open_packets = open_packets;
  open_entries = open_entries;
  closed_packets = closed_packets;
  closed_entries = closed_entries;
  open_gains_packets = open_gains_packets;
  open_gains_entries = open_gains_entries;
  closed_gains_packets = closed_gains_packets;
  closed_gains_entries = closed_gains_entries;
}
