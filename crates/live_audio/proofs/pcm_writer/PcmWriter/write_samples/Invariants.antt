use Rattle.std.proofs.Common.{◌≤◌, length, take}
use Rattle.std.specs.Io.KnownBytes.{Appends}
use Rattle.live_audio.specs.PcmWriter.{IsSamePcm}
use Rattle.live_audio.proofs.pcm_writer.PcmWriter.write_samples.Given as goal

-- this many octets were written so far
abbrev pub invariant-writes : goal.invariant-writes
invariant-writes g l = record {
  same : IsSamePcm l.fn.self l.self;
  few : l.count ≤ length l.octets;
  written : Appends (g.D.Write.contents l.fn.output) (g.D.Write.contents l.output) (take l.count l.octets);
}
