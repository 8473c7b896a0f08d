use Rattle.std.proofs.Common.{true, refl, sym, subst}
use Rattle.live_audio.specs.AudioWriter.{IsWritten}
use Rattle.live_audio.specs.declared.writer.AudioFile.{AudioFile}
use Rattle.live_audio.proofs.AudioLemmas.{finished}
use Rattle.live_audio.proofs.writer.AudioWriter.finish.Goals as goal

pub returns : goal.returns
returns g c = λ written none.
    let file : AudioFile = record { blocks = c.args.self.now.blocks; is_all = true; is_whole = c.finish_file-is_whole.result } in
    subst (λ held. IsWritten (g.F.WavFiles.closed c.args.files.now) held c.args.self.now file) (sym c.report_end.ensures)
    (finished _ _ _ c.args.self.now c.args.parts.now file refl (λ _. none) c.finish_file-is_whole.ensures written)
