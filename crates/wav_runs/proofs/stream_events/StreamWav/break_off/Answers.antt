use Rattle.std.proofs.Common.{ℕ, List, ◌++◌, length, subst}
use Rattle.wav_file.specs.Header.{header_octets}
use Rattle.wav_file.specs.File.{Becomes, IsBegun}
use Rattle.wav_runs.specs.StreamEvents.{StreamWavState}
use Rattle.wav_runs.proofs.StreamEventsLemmas.{stream_broken}
use Rattle.wav_runs.proofs.stream_events.StreamWav.break_off.Goals as goal

pub returns-in-Ok : goal.returns-in-Ok
returns-in-Ok g c = λ begun stream number open_at events head run followed.
    let then = g.F.Write.contents c.finish_partial.new.writer in
    stream_broken begun c.args.self stream number open_at events then head run followed
    (subst (λ (s : StreamWavState). (octets rest : List ℕ) → IsBegun s.made s.track.wav octets rest → Becomes s.made then (header_octets s.track.wav.format (length octets) ++ octets ++ rest))
    c.self.view_is c.in-Ok.ensures.ok)
