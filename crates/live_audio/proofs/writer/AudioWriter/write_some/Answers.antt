use Rattle.live_audio.proofs.AudioLemmas.{written_same}
use Rattle.live_audio.proofs.writer.AudioWriter.write_some.Goals as goal

pub returns-then-ready-eq0-clause-written : goal.returns-then-ready-eq0-clause-written
returns-then-ready-eq0-clause-written g c = λ written. written_same _ _ _ _ _ c.blocks_ready-ready.ensures.same written

pub returns-in-Err-clause-stopped : goal.returns-in-Err-clause-stopped
returns-in-Err-clause-stopped g c = λ written. c.in-Err.ensures.ended (written_same _ _ _ _ _ c.blocks_ready-ready.ensures.same written)

pub returns-in-Ok-write_chunk-clause-written : goal.returns-in-Ok-write_chunk-clause-written
returns-in-Ok-write_chunk-clause-written g c = λ written.
    c.in-Ok-write_chunk.ensures.written _ (c.in-Ok.ensures.begun (written_same _ _ _ _ _ c.blocks_ready-ready.ensures.same written))

pub returns-in-Err-write_chunk-clause-stopped : goal.returns-in-Err-write_chunk-clause-stopped
returns-in-Err-write_chunk-clause-stopped g c = λ written.
    c.in-Err-write_chunk.ensures.failed _ (c.in-Ok.ensures.begun (written_same _ _ _ _ _ c.blocks_ready-ready.ensures.same written))
