use Rattle.std.proofs.Common.{Option, List, ℕ}
use Rattle.live_audio.specs.PcmWriter.{HasPipedAll}
use Rattle.live_audio.proofs.pcm_writer.write_pcm.Given as goal

-- what was received so far was written
abbrev pub invariant-turns : goal.invariant-turns
invariant-turns g l = (before : Option (List ℕ)) → HasPipedAll before (g.D.Write.contents l.fn.output) l.fn.writer → HasPipedAll before (g.D.Write.contents l.output) l.writer
