use Rattle.std.proofs.Common.{refl}
use Rattle.live_audio.proofs.AudioLemmas.{begun, never_begun}
use Rattle.live_audio.proofs.writer.write_audio.Goals as goal

pub returns-in-Ok : goal.returns-in-Ok
returns-in-Ok g c = λ output fresh first empty.
    c.write_blocks.ensures (begun _ _ _ output c.args.writer.now _ c.chunk_of.result.items fresh first empty c.in-Ok.ensures.empty c.in-Ok.ensures.ok c.in-Ok.ensures.size refl c.chunk_of.ensures refl refl)

pub returns-in-Err : goal.returns-in-Err
returns-in-Err g c = λ output fresh first empty. never_begun _ _ output c.args.writer.now _ _ fresh first c.chunk_of.ensures refl refl refl
