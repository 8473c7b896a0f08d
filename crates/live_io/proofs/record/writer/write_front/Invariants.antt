use Rattle.std.proofs.Common.{◌≤◌, length, take}
use Rattle.std.specs.Io.KnownBytes.{Appends}
use Rattle.live_io.proofs.record.writer.write_front.Given as goal

-- the first octets were written
abbrev pub invariant-writes : goal.invariant-writes
invariant-writes g l = record {
  fits : l.done ≤ length l.octets;
  written : Appends (g.W.Write.contents l.fn.file) (g.W.Write.contents l.file) (take l.done l.octets);
}
