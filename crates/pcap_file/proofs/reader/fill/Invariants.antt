use Rattle.std.proofs.Common.{ℕ, List}
use Rattle.pcap_file.specs.Entries.{Entry}
use Rattle.pcap_file.specs.ReadBuffer.{octets_of}
use Rattle.pcap_file.specs.Reader.{HasReturned}
use Rattle.pcap_file.specs.Described.{HasDescribed}
use Rattle.pcap_file.specs.InterfaceTexts.{TextsView}
use Rattle.pcap_file.proofs.reader.fill.Given as goal

abbrev pub invariant-reads : goal.invariant-reads
invariant-reads g l = record {
  told : (file : List ℕ) (entries : List Entry) → HasReturned file entries (g.R.Read.remaining l.fn.reader) l.parts (octets_of l.fn.window) l.fn.window.ended
      → HasReturned file entries (g.R.Read.remaining l.reader) l.parts (octets_of l.window) l.window.ended;
  described : (file : List ℕ) (texts : List TextsView) → HasDescribed file texts (g.R.Read.remaining l.fn.reader) l.parts (octets_of l.fn.window) l.fn.window.ended
      → HasDescribed file texts (g.R.Read.remaining l.reader) l.parts (octets_of l.window) l.window.ended;
}
