use Rattle.std.proofs.Common.{ℕ, List, [], subst}
use Rattle.wav_file.specs.File.{Becomes, IsBegun, wav_octets}
use Rattle.wav_runs.specs.StreamEvents.{StreamWavState}
use Rattle.wav_runs.proofs.StreamEventsLemmas.{stream_finished}
use Rattle.wav_runs.proofs.stream_events.StreamWav.finish.Goals as goal

pub returns-in-Ok : goal.returns-in-Ok
returns-in-Ok g c = λ begun stream number open_at events head run followed.
    let then = g.F.Write.contents c.finish.new.writer in
    stream_finished begun c.add_due.new.self stream number open_at events then head run (c.add_due.ensures.due c.if-not-add_due.false begun events followed)
    (subst (λ (s : StreamWavState). (octets : List ℕ) → IsBegun s.made s.track.wav octets [] → Becomes s.made then (wav_octets s.track.wav.format octets)) c.wav.view_is c.in-Ok.ensures.ok)
