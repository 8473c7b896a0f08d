use Rattle.std.proofs.Common.{◌+◌, ◌∙◌, ap, length}
use Rattle.wav_file.specs.Header.{header_with}
use Rattle.wav_file.specs.LiveFile.{LiveState}
use Rattle.wav_file.proofs.LiveLemmas.{data_broken, data_renewed}
use Rattle.wav_file.proofs.live_wav.LiveWav.renew.Goals as goal

pub returns-in-Ok-clause-ok : goal.returns-in-Ok-clause-ok
returns-in-Ok-clause-ok g c head octets rest has =
    data_renewed _ _ c.args.self.now head octets rest c.as_slice-2.result.now has
    (c.as_slice-2.ensures.value ∙ c.header_octets-sizes.ensures.head ∙ ap (λ l. header_with c.self.inside.format l c.self.inside.count) c.as_slice.ensures.value ∙ ap (λ (w : LiveState). header_with w.format w.chunk w.count) c.self.view_is)
    (ap length c.as_slice-2.ensures.value ∙ c.header_octets-sizes.ensures.length ∙ ap (λ l. 80 + length l) c.as_slice.ensures.value ∙ ap (λ (w : LiveState). 80 + length w.chunk) c.self.view_is) c.in-Ok.ensures.ok

pub returns-in-Err-clause-fault : goal.returns-in-Err-clause-fault
returns-in-Err-clause-fault g c head octets rest has =
    data_broken _ _ c.args.self.now head octets rest c.as_slice-2.result.now has
    (c.as_slice-2.ensures.value ∙ c.header_octets-sizes.ensures.head ∙ ap (λ l. header_with c.self.inside.format l c.self.inside.count) c.as_slice.ensures.value ∙ ap (λ (w : LiveState). header_with w.format w.chunk w.count) c.self.view_is)
    (ap length c.as_slice-2.ensures.value ∙ c.header_octets-sizes.ensures.length ∙ ap (λ l. 80 + length l) c.as_slice.ensures.value ∙ ap (λ (w : LiveState). 80 + length w.chunk) c.self.view_is) c.in-Err.ensures.fault
