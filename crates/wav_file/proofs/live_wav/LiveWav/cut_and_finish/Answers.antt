use Rattle.std.proofs.Common.{◌+◌, ◌∙◌, ap, length}
use Rattle.wav_file.specs.LiveFile.{LiveState}
use Rattle.wav_file.proofs.LiveLemmas.{data_cut}
use Rattle.wav_file.proofs.live_wav.LiveWav.cut_and_finish.Goals as goal

pub returns-in-Ok-clause-ok : goal.returns-in-Ok-clause-ok
returns-in-Ok-clause-ok g c = λ head octets rest has.
    c.in_ok-finish_synced.ensures.ok head octets
    (data_cut _ _ c.args.self.now head octets rest _ has (ap (λ l. 80 + length l + c.self.inside.count) c.as_slice.ensures.value ∙ ap (λ (w : LiveState). 80 + length w.chunk + w.count) c.self.view_is) c.in-Ok.ensures.octets)
