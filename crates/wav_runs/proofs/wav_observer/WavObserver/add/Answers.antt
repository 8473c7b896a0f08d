use Rattle.std.proofs.Common.{true, refl, sym, subst}
use Rattle.wav_runs.specs.WavObserver.{HasSounded, SoundState}
use Rattle.wav_runs.proofs.WavObserverLemmas.{sounded_broken}
use Rattle.wav_runs.proofs.wav_observer.WavObserver.add.Goals as goal

pub returns-in-Err : goal.returns-in-Err
returns-in-Err g c = λ begun datagrams sounded.
    let before : SoundState = record { made = g.F.Write.contents c.self.inside.file; wav = c.self.inside.wav; failed = c.self.inside.failed } in
    let after : SoundState = record { made = g.F.Write.contents c.push.new.writer; wav = c.push.new.self; failed = true } in
    sounded_broken begun before after datagrams c.args.datagram.now _ c.if-self.false refl (subst (λ (s : SoundState). HasSounded begun s datagrams) (sym c.self.view_is) sounded)
    c.in-Err.ensures.fault.1 c.in-Err.ensures.same
