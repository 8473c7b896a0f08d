use Rattle.std.proofs.Common.{◌∙◌, ap, length}
use Rattle.wav_file.specs.Header.{header_octets}
use Rattle.wav_file.specs.File.{WavState}
use Rattle.wav_file.proofs.FileLemmas.{sized}
use Rattle.wav_file.proofs.PartLemmas.{sized_part}
use Rattle.wav_file.proofs.writer.WavWriter.finish_partial.Goals as goal

pub returns-in-Ok-clause-ok : goal.returns-in-Ok-clause-ok
returns-in-Ok-clause-ok g c octets rest begun =
    sized _ _ c.args.self octets rest c.as_slice.result.now begun
    (c.as_slice.ensures.value ∙ c.header_octets-head.ensures.head ∙ ap (λ (w : WavState). header_octets w.format w.count) c.self.view_is)
    (ap length c.as_slice.ensures.value ∙ c.header_octets-head.ensures.length) c.in-Ok.ensures.bytes

pub returns-in-Err-clause-fault : goal.returns-in-Err-clause-fault
returns-in-Err-clause-fault g c octets rest begun =
    sized_part _ _ c.args.self octets rest c.as_slice.result.now begun
    (c.as_slice.ensures.value ∙ c.header_octets-head.ensures.head ∙ ap (λ (w : WavState). header_octets w.format w.count) c.self.view_is)
    (ap length c.as_slice.ensures.value ∙ c.header_octets-head.ensures.length) c.in-Err.ensures.part
