use Rattle.live_audio.specs.AudioWriter.{HasWritten}
use Rattle.live_audio.proofs.writer.write_blocks.Given as goal

-- what was received so far was written
abbrev pub invariant-turns : goal.invariant-turns
invariant-turns g l =
    HasWritten (g.F.WavFiles.closed l.fn.files) (g.F.File.Write.contents l.fn.file) l.fn.writer l.fn.parts → HasWritten (g.F.WavFiles.closed l.files) (g.F.File.Write.contents l.file) l.writer l.parts
