use Rattle.std.proofs.Common.{false, refl, sym, subst}
use Rattle.live_audio.specs.AudioWriter.{IsStopped, IsWritten}
use Rattle.live_audio.specs.declared.writer.AudioFile.{AudioFile}
use Rattle.live_audio.specs.declared.writer.AudioStop.{AudioStop}
use Rattle.live_audio.proofs.AudioLemmas.{broken_off}
use Rattle.live_audio.proofs.writer.AudioWriter.stop.Goals as goal

pub returns-in-Failed : goal.returns-in-Failed
returns-in-Failed g c = λ stopped.
    let file : AudioFile = record { blocks = c.args.self.now.blocks; is_all = false; is_whole = c.cut_and_finish_file-is_whole.result } in
    let failed = subst (λ (s : AudioStop). IsStopped (g.F.WavFiles.closed c.args.files.now) (g.F.File.Write.contents c.args.file.now) c.args.self.now c.args.parts.now s) c.in-Failed.is stopped in
    subst (λ (f : AudioFile). IsWritten (g.F.WavFiles.closed c.args.files.now) (g.F.File.Write.contents c.end_early.new.file) c.args.self.now f) (sym c.end_early.ensures.result)
    (subst (λ held. IsWritten (g.F.WavFiles.closed c.args.files.now) held c.args.self.now file) (sym c.end_early.ensures.same)
    (broken_off _ _ _ c.args.self.now c.args.parts.now file refl refl c.cut_and_finish_file-is_whole.ensures failed))
