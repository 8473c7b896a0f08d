use Rattle.std.proofs.Common.{◌≡◌, ℕ, List, map, Ok}
use Rattle.pcap_file.specs.Entries.{Entry}
use Rattle.pcap_flows.specs.FlowTable.{no_table, table_after, table_view}
use Rattle.pcap_file.specs.ReadBuffer.{octets_of}
use Rattle.pcap_file.specs.Reader.{HasReturned, packets_among}
use Rattle.pcap_replay.specs.Flows.{HasTable}
use Rattle.pcap_replay.proofs.flow_scan.add_all.Given as goal

-- the table has the flows of the packets so far
abbrev pub invariant-parts : goal.invariant-parts
invariant-parts g l = (file : List ℕ) (entries : List Entry) → HasReturned file entries (g.R.Read.remaining l.fn.reader) l.fn.parts (octets_of l.fn.window) l.fn.window.ended
    → table_view l.fn.table ≡ table_after no_table (map Ok (packets_among entries))
    → HasTable file (g.R.Read.remaining l.reader) (table_view l.table) l.parts (octets_of l.window) l.window.ended
