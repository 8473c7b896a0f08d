use Rattle.std.proofs.Common.{◌≡◌, ◌≤◌, length, false}
use Rattle.std.specs.Io.KnownBytes.{Consumes}
use Rattle.pcap_file.specs.ReadBuffer.{octets_of}
use Rattle.pcap_file.proofs.reader.fill_header.Given as goal

abbrev pub invariant-reads : goal.invariant-reads
invariant-reads g l = record {
  read : Consumes (g.R.Read.remaining l.fn.reader) (g.R.Read.remaining l.reader) (octets_of l.window);
  few : length (octets_of l.window) ≤ 65560;
  some : l._turn ≤ length (octets_of l.window);
  going : l.window.ended ≡ false;
}
