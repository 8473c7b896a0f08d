use Rattle.std.proofs.Common.{◌≤◌, length}
use Rattle.std.specs.Io.KnownBytes.{Consumes}
use Rattle.studio_run.proofs.text_io.read_octets.Given as goal

abbrev pub invariant-reads : goal.invariant-reads
invariant-reads g l = record {
  fits : length l.text.items ≤ 67108864;
  taken : Consumes (g.R.Read.remaining l.initial.reader) (g.R.Read.remaining l.reader) l.text.items;
}
