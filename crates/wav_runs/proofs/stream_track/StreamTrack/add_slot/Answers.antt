use Rattle.std.proofs.Common.{◌≡◌, Err, option_copied, subst, rules, to_z, of_z, w64}
use Rattle.std.proofs.lemmas.Int.{to_z-of_z}
use Rattle.rtp_stream.specs.MarkRef.{body_from}
use Rattle.wav_runs.specs.MixWav.{HasAdded}
use Rattle.wav_file.specs.PartFile.{HasPrefix}
use Rattle.wav_runs.specs.StreamSamples.{body_samples, gap_samples}
use Rattle.wav_file.proofs.FileLemmas.{at_err, at_ok}
use Rattle.wav_runs.proofs.StreamPartLemmas.{prefix_longer, slot_added, slot_part}
use Rattle.wav_runs.proofs.stream_track.StreamTrack.add_slot.Goals as goal

pub returns-in_err-add_gap-clause-part : goal.returns-in_err-add_gap-clause-part
returns-in_err-add_gap-clause-part g c =
    let wav = c.args.self.now.wav in
    let bits : to_z w64 (of_z w64 c.args.media) ≡ c.args.media = to_z-of_z w64 c.args.media c.ranges.media in
    let is : c.from_residual.result ≡ Err c.in_err-add_gap.field-0.0 = search rules in
    rw is (prefix_longer _ _ _ _ _ _
    (subst (λ t. HasPrefix (g.F.Write.contents c.args.file.now) (g.F.Write.contents c.add_gap.new.file) wav c.add_gap.new.self.wav (gap_samples wav.format c.args.self.now.end t)) bits c.in_err-add_gap.ensures.part))

pub returns-clause-added : goal.returns-clause-added
returns-clause-added g c =
    let wav = c.args.self.now.wav in
    let body = body_from (option_copied c.args.payload) in
    let bits : to_z w64 (of_z w64 c.args.media) ≡ c.args.media = to_z-of_z w64 c.args.media c.ranges.media in
    let gap = subst (λ t. HasAdded (g.F.Write.contents c.args.file.now) (g.F.Write.contents c.add_gap.new.file) wav c.add_gap.new.self.wav (gap_samples wav.format c.args.self.now.end t)) bits c.in_ok-add_gap.ensures.added in
    at_ok c.add_body.result (λ added. slot_added _ _ _ wav c.add_gap.new.self.wav c.add_body.new.self.wav _ (λ f n. body_samples f n body) c.add_gap.new.self.frames c.args.self.now.frames gap c.add_gap.ensures.frames added) c.add_body.ensures.added

pub returns-clause-part : goal.returns-clause-part
returns-clause-part g c =
    let wav = c.args.self.now.wav in
    let body = body_from (option_copied c.args.payload) in
    let bits : to_z w64 (of_z w64 c.args.media) ≡ c.args.media = to_z-of_z w64 c.args.media c.ranges.media in
    let gap = subst (λ t. HasAdded (g.F.Write.contents c.args.file.now) (g.F.Write.contents c.add_gap.new.file) wav c.add_gap.new.self.wav (gap_samples wav.format c.args.self.now.end t)) bits c.in_ok-add_gap.ensures.added in
    at_err c.add_body.result (λ part. slot_part _ _ _ wav c.add_gap.new.self.wav c.add_body.new.self.wav _ (λ f n. body_samples f n body) c.add_gap.new.self.frames c.args.self.now.frames gap c.add_gap.ensures.frames part) c.add_body.ensures.part
