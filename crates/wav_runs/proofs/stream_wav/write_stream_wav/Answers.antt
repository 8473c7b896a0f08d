use Rattle.std.proofs.Common.{◌≡◌, ◌∙◌, Err, inl, ap, subst, rules}
use Rattle.rtp_stream.specs.declared.stream_spec.Stream.{Stream}
use Rattle.wav_file.proofs.FileLemmas.{at_err, at_ok}
use Rattle.wav_file.proofs.PartLemmas.{part_either}
use Rattle.wav_runs.proofs.StreamPartLemmas.{broke_stream, broke_stream_end}
use Rattle.studio_session.specs.Play.{stream_marks}
use Rattle.wav_runs.specs.BrokenFile.{BreaksHeader}
use Rattle.wav_runs.specs.declared.stream_track.StreamTrack.{StreamTrack}
use Rattle.wav_runs.specs.StreamSamples.{stream_format}
use Rattle.wav_runs.proofs.StreamRunLemmas.{stream_written}
use Rattle.wav_runs.proofs.stream_wav.write_stream_wav.Goals as goal

pub returns-in-Ok-clause-ok : goal.returns-in-Ok-clause-ok
returns-in-Ok-clause-ok g c = at_ok c.finish.result (λ sizes stream number open_at run pulled empty.
    let own : c.spec.result ≡ stream = c.spec.ensures ∙ pulled.spec in
    let first = c.in_ok-track.ensures.first in
    stream_written (g.F.Write.contents c.args.file.now) (g.F.Write.contents c.begin.new.file) (g.F.Write.contents c.add_marks.new.file) (g.F.Write.contents c.finish.new.writer)
    stream (stream_format c.spec.result) c.in_ok-track.track c.add_marks.new.track _ (ap stream_format own) (ap (λ (t : StreamTrack). t.wav) first)
    (ap (λ (t : StreamTrack). t.frames) first ∙ ap (λ (s : Stream). s.frames) own) (ap (λ (t : StreamTrack). t.end) first) c.in_ok-track.ensures.ok (c.in-Ok.ensures.ok stream number open_at run pulled) sizes empty) c.finish.ensures.ok

pub returns-in-Ok-clause-part : goal.returns-in-Ok-clause-part
returns-in-Ok-clause-part g c = at_err c.finish.result (λ sizes stream number open_at run pulled empty.
    let own : c.spec.result ≡ stream = c.spec.ensures ∙ pulled.spec in
    let first = c.in_ok-track.ensures.first in
    broke_stream_end (g.F.Write.contents c.args.file.now) (g.F.Write.contents c.begin.new.file) (g.F.Write.contents c.add_marks.new.file) (g.F.Write.contents c.finish.new.writer)
    stream (stream_format c.spec.result) c.in_ok-track.track c.add_marks.new.track _ (ap stream_format own) (ap (λ (t : StreamTrack). t.wav) first)
    (ap (λ (t : StreamTrack). t.frames) first ∙ ap (λ (s : Stream). s.frames) own) (ap (λ (t : StreamTrack). t.end) first) c.in_ok-track.ensures.ok (c.in-Ok.ensures.ok stream number open_at run pulled) sizes empty) c.finish.ensures.fault

pub returns-in-Err-clause-part : goal.returns-in-Err-clause-part
returns-in-Err-clause-part g c = λ stream number open_at run pulled empty.
    let own : c.spec.result ≡ stream = c.spec.ensures ∙ pulled.spec in
    let first = c.in_ok-track.ensures.first in
    broke_stream (g.F.Write.contents c.args.file.now) (g.F.Write.contents c.begin.new.file) (g.F.Write.contents c.add_marks.new.file) _
    stream (stream_format c.spec.result) c.in_ok-track.track c.add_marks.new.track.wav (stream_marks stream number open_at (g.E.EventSource.events c.args.source.now)) (ap stream_format own)
    (ap (λ (t : StreamTrack). t.wav) first) (ap (λ (t : StreamTrack). t.frames) first ∙ ap (λ (s : Stream). s.frames) own) (ap (λ (t : StreamTrack). t.end) first) c.in_ok-track.ensures.ok
    (c.in-Err.ensures.part stream number open_at run pulled)
    (part_either c.finish_partial.result _ _ c.add_marks.new.track.wav c.finish_partial.ensures.ok c.finish_partial.ensures.fault) empty

pub returns-in_err-track-clause-part : goal.returns-in_err-track-clause-part
returns-in_err-track-clause-part g c =
    let is : c.from_residual.result ≡ Err c.in_err-track.field-0.0 = search rules in
    rw is (λ stream number open_at run pulled empty.
    inl (subst (λ (s : Stream). BreaksHeader (stream_format s) (g.F.Write.contents c.args.file.now) (g.F.Write.contents c.begin.new.file)) (c.spec.ensures ∙ pulled.spec) c.in_err-track.ensures.fault))
