-- The flows of a capture's packets so far.
use Rattle.std.specs.Prelude.{◌≡◌, ℕ, Bool, List, map, Option, Ok}
use Rattle.pcap_file.specs.declared.block_parser.BlockParser.{BlockParser}
use Rattle.pcap_file.specs.Entries.{Entry}
use Rattle.pcap_flows.specs.FlowTable.{TableView, no_table, table_after}
use Rattle.pcap_file.specs.Reader.{HasReturned, packets_among}

-- the table has the flows of the packets among the entries that were returned
pub record HasTable (file : List ℕ) (left : Option (List ℕ)) (table : TableView) (parts : BlockParser) (held : List ℕ) (ended : Bool) : Type 0 where
  pub entries : List Entry
  pub told : HasReturned file entries left parts held ended
  pub seen : table ≡ table_after no_table (map Ok (packets_among entries))
