use Rattle.std.proofs.lemmas.Grind.{elements}
use Rattle.std.proofs.Common.{true, refl, sym, subst, arith}
use Rattle.wav_runs.specs.StreamEvents.{HasFollowed, StreamWavState}
use Rattle.wav_runs.proofs.StreamEventsLemmas.{followed_due, followed_stop}
use Rattle.wav_runs.proofs.stream_events.StreamWav.add_due.Goals as goal

pub returns-then-self-2-clause-still : goal.returns-then-self-2-clause-still
returns-then-self-2-clause-still g c = λ is begun events followed.
    let i = c.self.inside in
    let before : StreamWavState = record { made = g.F.Write.contents i.file; track = i.track; cursor = i.cursor; failed = i.failed } in
    let after : StreamWavState = record { made = g.F.Write.contents i.file; track = i.track; cursor = i.cursor; failed = true } in
    followed_stop begun before after events c.if-self.false refl refl refl (subst (λ s. HasFollowed begun s events) (sym c.self.view_is) followed)

pub returns-in-Ok-clause-due : goal.returns-in-Ok-clause-due
returns-in-Ok-clause-due g c = λ is begun events followed.
    let i = c.self.inside in
    let before : StreamWavState = record { made = g.F.Write.contents i.file; track = i.track; cursor = i.cursor; failed = i.failed } in
    let after : StreamWavState = record { made = g.F.Write.contents c.add_taken.new.file; track = c.add_taken.new.track; cursor = c.add_taken.new.cursor; failed = i.failed } in
    followed_due begun before after events c.if-self.false c.in-Ok.ensures.ok c.in-Ok.ensures.settled c.in-Ok.ensures.all c.add_taken.ensures.kept
    (subst (λ s. HasFollowed begun s events) (sym c.self.view_is) followed)

pub returns-in-Err-clause-still : goal.returns-in-Err-clause-still
returns-in-Err-clause-still c = grind (arith, elements)

pub returns-then-self-2-clause-due : goal.returns-then-self-2-clause-due
returns-then-self-2-clause-due c = grind (arith, elements)

pub returns-in-Err-clause-due : goal.returns-in-Err-clause-due
returns-in-Err-clause-due c = grind (arith, elements)

pub returns-then-self-clause-due : goal.returns-then-self-clause-due
returns-then-self-clause-due c = grind (arith, elements)

pub returns-in-Ok-clause-still : goal.returns-in-Ok-clause-still
returns-in-Ok-clause-still c = grind (arith, elements)
