use Rattle.std.proofs.Common.{◌≤◌, length, take}
use Rattle.std.specs.Io.KnownBytes.{Appends}
use Rattle.wav_file.proofs.writer.write_octets.Given as goal

-- the first octets were written
abbrev pub invariant-writes : goal.invariant-writes
invariant-writes g l = record {
  fits : l.done ≤ length l.octets;
  written : Appends (g.W.Write.contents l.fn.writer) (g.W.Write.contents l.writer) (take l.done l.octets);
}
