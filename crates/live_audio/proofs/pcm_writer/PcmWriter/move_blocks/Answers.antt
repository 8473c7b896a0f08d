use Rattle.std.proofs.Common.{◌∙◌, refl}
use Rattle.std.proofs.lemmas.Result.{IfOk-weaker}
use Rattle.live_audio.proofs.PcmLemmas.{err_then, part_more, whole_more}
use Rattle.live_audio.proofs.pcm_writer.PcmWriter.move_blocks.Goals as goal

pub returns-in-Ok-clause-moved : goal.returns-in-Ok-clause-moved
returns-in-Ok-clause-moved g c =
    IfOk-weaker c.write_chunk.result _ _
    (λ done part before piped.
    whole_more before _ _ c.args.self.now _ c.write_chunk.new.self c.args.blocks c.pop_entire_slice.new.slice (c.pop_entire_slice.auto.slice ∙ c.requires.size)
    c.in-Ok.ensures.ok.0 refl refl refl part piped)
    c.write_chunk.ensures.all

pub returns-in-Ok-clause-stopped : goal.returns-in-Ok-clause-stopped
returns-in-Ok-clause-stopped g c =
    err_then c.write_chunk.result
    (λ part before piped.
    part_more before _ _ c.args.self.now _ c.write_chunk.new.self c.args.blocks part.0 c.pop_entire_slice.new.slice (c.pop_entire_slice.auto.slice ∙ c.requires.size)
    c.in-Ok.ensures.ok.0 refl refl refl part.1 piped)
    c.write_chunk.ensures.part
