use Rattle.std.proofs.Common.{◌≡◌, Err, rules}
use Rattle.wav_file.proofs.FileLemmas.{at_err, at_ok, finished}
use Rattle.wav_file.proofs.PartLemmas.{finish_part}
use Rattle.wav_file.proofs.writer.WavWriter.finish.Goals as goal

pub returns-in_err-finish_partial-clause-fault : goal.returns-in_err-finish_partial-clause-fault
returns-in_err-finish_partial-clause-fault g c =
    let is : c.from_residual.result ≡ Err c.in_err-finish_partial.field-0.0 = search rules in
    rw is (λ octets begun.
    finish_part c.pad-padded.result c.finish_partial.result _ _ _ c.args.self octets begun c.pad-padded.ensures.ok c.pad-padded.ensures.fault c.finish_partial.ensures.ok c.finish_partial.ensures.fault)

pub returns-clause-ok : goal.returns-clause-ok
returns-clause-ok g c = at_ok c.pad-padded.result (λ pads octets begun. finished _ _ _ c.args.self octets begun pads c.in_ok-finish_partial.ensures.ok) c.pad-padded.ensures.ok

pub returns-clause-fault : goal.returns-clause-fault
returns-clause-fault g c =
    at_err c.pad-padded.result (λ _ octets begun.
    finish_part c.pad-padded.result c.finish_partial.result _ _ _ c.args.self octets begun c.pad-padded.ensures.ok c.pad-padded.ensures.fault c.finish_partial.ensures.ok c.finish_partial.ensures.fault)
    c.pad-padded.ensures.fault
