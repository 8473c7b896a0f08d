use Rattle.wav_runs.proofs.StreamPartLemmas.{push_part}
use Rattle.wav_runs.proofs.stream_track.StreamTrack.add_body.Goals as goal

pub returns-in-Some-clause-part : goal.returns-in-Some-clause-part
returns-in-Some-clause-part g c = rw c.in-Some.is (push_part c.push.result _ _ _ _ _ c.push.ensures.fault c.push.ensures.same)
