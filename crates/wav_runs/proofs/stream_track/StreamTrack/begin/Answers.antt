use Rattle.std.proofs.Common.{◌≡◌, ℕ, Err, refl, subst, take, rules}
use Rattle.std.specs.Io.KnownBytes.{Appends}
use Rattle.wav_file.specs.declared.header.WavFormat.{WavFormat}
use Rattle.wav_file.specs.Header.{header_octets}
use Rattle.wav_runs.specs.StreamSamples.{stream_format}
use Rattle.wav_runs.proofs.StreamRunLemmas.{format_by}
use Rattle.wav_runs.proofs.stream_track.StreamTrack.begin.Goals as goal

pub returns-clause-ok : goal.returns-clause-ok
returns-clause-ok g c =
    let format : WavFormat = record { enc = c.enc.result; channels = c.channels.result } in
    let is : format ≡ stream_format c.args.spec = format_by c.args.spec c.args.spec c.enc.result c.channels.result refl c.enc.ensures c.channels.ensures.value in
    subst (λ (f : WavFormat). Appends (g.F.Write.contents c.args.file.now) (g.F.Write.contents c.begin.new.writer) (header_octets f 0)) is c.in_ok-wav.ensures.ok

pub returns-in_err-wav-clause-fault : goal.returns-in_err-wav-clause-fault
returns-in_err-wav-clause-fault g c =
    let format : WavFormat = record { enc = c.enc.result; channels = c.channels.result } in
    let same : format ≡ stream_format c.args.spec = format_by c.args.spec c.args.spec c.enc.result c.channels.result refl c.enc.ensures c.channels.ensures.value in
    let is : c.from_residual.result ≡ Err c.in_err-wav.field-0.0 = search rules in
    rw is (subst (λ (f : WavFormat). (n : ℕ) × Appends (g.F.Write.contents c.args.file.now) (g.F.Write.contents c.begin.new.writer) (take n (header_octets f 0))) same c.in_err-wav.ensures.fault)
