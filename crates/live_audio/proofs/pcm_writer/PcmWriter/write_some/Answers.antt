use Rattle.live_audio.proofs.PcmLemmas.{all_same}
use Rattle.live_audio.proofs.pcm_writer.PcmWriter.write_some.Goals as goal

pub returns-clause-written : goal.returns-clause-written
returns-clause-written g c = λ before piped. c.in_ok-move_blocks.ensures.moved before (all_same _ _ _ _ c.blocks_ready-blocks.ensures.same piped)
