use Rattle.std.proofs.Common.{◌≡◌, [], Err, inl, rules}
use Rattle.wav_file.specs.declared.fault.FileFault.TheVariants.{Write as NotWritten}
use Rattle.wav_runs.specs.declared.fault.WavRunFault.TheVariants.{File}
use Rattle.wav_runs.proofs.FrontLemmas.{front_none, front_of_all}
use Rattle.wav_runs.proofs.MixWavLemmas.{records_whole}
use Rattle.wav_file.proofs.PartLemmas.{part_either}
use Rattle.wav_runs.proofs.BrokenFileLemmas.{broke_end, broke_mix}
use Rattle.wav_runs.proofs.mix_wav.write_mix_wav.Goals as goal

pub returns-in_ok-finish-in-Ok-clause-ok : goal.returns-in_ok-finish-in-Ok-clause-ok
returns-in_ok-finish-in-Ok-clause-ok g c = λ studio run played.
    records_whole studio (g.E.EventSource.events c.args.source.now) _ _ _ _ _ _ c.args.format c.in_ok-wav.wav c.write_both.new.wav
    c.in_ok-wav.ensures.empty c.in_ok-wav.ensures.ok (c.in-Ok.ensures.ok studio run played) c.in_ok-finish-in-Ok.ensures.ok

pub returns-in_err-wav-clause-begun : goal.returns-in_err-wav-clause-begun
returns-in_err-wav-clause-begun g c =
    let is : c.from_residual.result ≡ Err (File NotWritten) = search rules in
    rw is (λ studio report run played of. front_none (g.W.Write.contents c.args.writer.now) [] report)

pub returns-in_err-finish-in-Ok-clause-begun : goal.returns-in_err-finish-in-Ok-clause-begun
returns-in_err-finish-in-Ok-clause-begun g c =
    let is : c.from_residual-in_err-finish-in-Ok.result ≡ Err (File NotWritten) = search rules in
    rw is (λ studio report run played of. front_of_all studio (g.E.EventSource.events c.args.source.now) _ _ _ _ report _ _ (c.in-Ok.ensures.ok studio run played) of)

pub returns-in_err-wav-clause-part : goal.returns-in_err-wav-clause-part
returns-in_err-wav-clause-part g c =
    let is : c.from_residual.result ≡ Err (File NotWritten) = search rules in
    rw is (λ studio datagrams run played are empty. inl c.in_err-wav.ensures.fault)

pub returns-in_err-finish-in-Ok-clause-part : goal.returns-in_err-finish-in-Ok-clause-part
returns-in_err-finish-in-Ok-clause-part g c =
    let is : c.from_residual-in_err-finish-in-Ok.result ≡ Err (File NotWritten) = search rules in
    rw is (λ studio datagrams run played are empty.
    broke_end studio (g.E.EventSource.events c.args.source.now) _ _ _ _ _ _ c.args.format c.in_ok-wav.wav c.write_both.new.wav datagrams
    c.in_ok-wav.ensures.empty c.in_ok-wav.ensures.ok (c.in-Ok.ensures.ok studio run played) are c.in_err-finish-in-Ok.ensures.fault empty)

pub returns-in-Err-clause-part : goal.returns-in-Err-clause-part
returns-in-Err-clause-part g c = λ studio datagrams run played are empty.
    broke_mix _ _ _ _ c.args.format c.in_ok-wav.wav c.write_both.new.wav datagrams c.in_ok-wav.ensures.empty c.in_ok-wav.ensures.ok
    (c.in-Err.ensures.part studio datagrams run played are)
    (part_either c.finish_partial.result _ _ c.write_both.new.wav c.finish_partial.ensures.ok c.finish_partial.ensures.fault) empty
