use Rattle.std.proofs.Common.{◌≡◌, ◌≤◌, ◌+◌, ◌-◌, ◌*◌, replicate}
use Rattle.std.specs.Io.KnownBytes.{Appends}
use Rattle.wav_file.proofs.writer.WavWriter.push_silence.Given as goal

abbrev pub invariant-chunks : goal.invariant-chunks
invariant-chunks g l = record {
  within : l.done ≤ l.instants;
  format : l.self.format ≡ l.fn.self.format;
  count : l.self.count ≡ l.fn.self.count + l.done * l.frame;
  wrote : Appends (g.W.Write.contents l.fn.writer) (g.W.Write.contents l.writer) (replicate (l.done * l.frame) 0);
}

abbrev pub decreases-chunks : goal.decreases-chunks
decreases-chunks g l = l.instants - l.done
