use Rattle.live_audio.proofs.AudioLemmas.{written_same}
use Rattle.live_audio.proofs.writer.write_blocks.Goals as goal

pub returns-then-is_last : goal.returns-then-is_last
returns-then-is_last g c = λ written.
    let before = written_same _ _ _ _ _ c.is_last-is_last.ensures.same (c.turns.invariant written) in
    c.finish.ensures (c.in-Ok-eq0.ensures.written before) (c.in-Ok-eq0.ensures.empty c.in-Ok-eq0.field-0-test before)

pub turns-preserved-in-Ok-eq0 : goal.turns-preserved-in-Ok-eq0
turns-preserved-in-Ok-eq0 g c = λ written. c.in-Ok-eq0.ensures.written (written_same _ _ _ _ _ c.is_last-is_last.ensures.same (c.turns.invariant written))

pub turns-preserved : goal.turns-preserved
turns-preserved g c = λ written. c.in-Ok.ensures.written (written_same _ _ _ _ _ c.is_last-is_last.ensures.same (c.turns.invariant written))

pub returns-in-Err : goal.returns-in-Err
returns-in-Err g c = λ written. c.stop.ensures (c.in-Err.ensures.stopped (written_same _ _ _ _ _ c.is_last-is_last.ensures.same (c.turns.invariant written)))
