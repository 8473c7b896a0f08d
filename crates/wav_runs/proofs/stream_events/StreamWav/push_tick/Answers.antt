use Rattle.std.proofs.Common.{◌≡◌, ◌∙◌, false, refl, sym, ap, subst, w64}
use Rattle.std.proofs.lemmas.Int.{to_z-of_z}
use Rattle.studio_session.specs.Event.{Tick}
use Rattle.studio_session.specs.PushedEvents.{IsHanded}
use Rattle.wav_runs.specs.StreamEvents.{HasFollowedDue, StreamWavState}
use Rattle.wav_runs.proofs.StreamEventsLemmas.{due_handed, followed_still}
use Rattle.wav_runs.proofs.stream_events.StreamWav.push_tick.Goals as goal

pub returns-then-not-add_due : goal.returns-then-not-add_due
returns-then-not-add_due g c = λ begun events followed.
    followed_still begun c.add_due.new.self events (Tick c.args.now) (c.add_due.ensures.failed c.if-not-add_due.true) (c.add_due.ensures.still c.if-not-add_due.true begun events followed)

pub returns : goal.returns
returns g c = λ begun events followed.
    let i = c.self.inside in
    let before : StreamWavState = record { made = g.F.Write.contents i.file; track = i.track; cursor = i.cursor; failed = i.failed } in
    let after : StreamWavState = record { made = g.F.Write.contents i.file; track = i.track; cursor = c.push_tick.new.self; failed = i.failed } in
    let due = subst (λ s. HasFollowedDue begun s events) (sym c.self.view_is) (c.add_due.ensures.due c.if-not-add_due.false begun events followed) in
    let whole : i.failed ≡ false = ap (λ (s : StreamWavState). s.failed) c.self.view_is ∙ c.add_due.ensures.whole c.if-not-add_due.false in
    let handed = subst (λ u. IsHanded (Tick u) i.cursor.number i.cursor c.push_tick.new.self) (to_z-of_z w64 c.args.now c.ranges.now) (c.push_tick.ensures.handed i.cursor.number) in
    due_handed begun before after events (Tick c.args.now) whole refl refl handed due
