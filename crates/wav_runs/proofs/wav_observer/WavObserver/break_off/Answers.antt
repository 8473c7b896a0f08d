use Rattle.std.proofs.Common.{ℕ, List, ◌++◌, length, subst}
use Rattle.wav_file.specs.Header.{header_octets}
use Rattle.wav_file.specs.File.{Becomes, IsBegun}
use Rattle.wav_runs.specs.WavObserver.{SoundState}
use Rattle.wav_runs.proofs.WavObserverLemmas.{ends_broken}
use Rattle.wav_runs.proofs.wav_observer.WavObserver.break_off.Goals as goal

pub returns-in-Ok : goal.returns-in-Ok
returns-in-Ok g c = λ begun datagrams head sounded.
    let then = g.F.Write.contents c.finish_partial.new.writer in
    ends_broken begun c.args.self datagrams then head sounded
    (subst (λ (s : SoundState). (octets rest : List ℕ) → IsBegun s.made s.wav octets rest → Becomes s.made then (header_octets s.wav.format (length octets) ++ octets ++ rest)) c.self.view_is c.in-Ok.ensures.ok)
