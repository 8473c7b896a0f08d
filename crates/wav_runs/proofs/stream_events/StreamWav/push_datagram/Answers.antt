use Rattle.std.proofs.Common.{◌≡◌, ◌∙◌, true, false, refl, sym, ap, subst}
use Rattle.studio_session.specs.Event.{Arrival}
use Rattle.wav_runs.specs.StreamEvents.{HasFollowedDue, StreamWavState}
use Rattle.wav_runs.proofs.StreamEventsLemmas.{due_handed, due_stop, followed_still}
use Rattle.wav_runs.proofs.stream_events.StreamWav.push_datagram.Goals as goal

pub returns-then-not-add_due : goal.returns-then-not-add_due
returns-then-not-add_due g c = λ begun events followed.
    followed_still begun c.add_due.new.self events (Arrival c.args.stream c.args.path c.args.octets.now) (c.add_due.ensures.failed c.if-not-add_due.true) (c.add_due.ensures.still c.if-not-add_due.true begun events followed)

pub returns-then-not-push_or_skip : goal.returns-then-not-push_or_skip
returns-then-not-push_or_skip g c = λ begun events followed.
    let i = c.self.inside in
    let before : StreamWavState = record { made = g.F.Write.contents i.file; track = i.track; cursor = i.cursor; failed = i.failed } in
    let after : StreamWavState = record { made = g.F.Write.contents i.file; track = i.track; cursor = c.push_or_skip.new.cursor; failed = true } in
    let due = subst (λ s. HasFollowedDue begun s events) (sym c.self.view_is) (c.add_due.ensures.due c.if-not-add_due.false begun events followed) in
    due_stop begun before after events (Arrival c.args.stream c.args.path c.args.octets.now) refl refl refl due

pub returns : goal.returns
returns g c = λ begun events followed.
    let i = c.self.inside in
    let before : StreamWavState = record { made = g.F.Write.contents i.file; track = i.track; cursor = i.cursor; failed = i.failed } in
    let after : StreamWavState = record { made = g.F.Write.contents i.file; track = i.track; cursor = c.push_or_skip.new.cursor; failed = i.failed } in
    let due = subst (λ s. HasFollowedDue begun s events) (sym c.self.view_is) (c.add_due.ensures.due c.if-not-add_due.false begun events followed) in
    let whole : i.failed ≡ false = ap (λ (s : StreamWavState). s.failed) c.self.view_is ∙ c.add_due.ensures.whole c.if-not-add_due.false in
    due_handed begun before after events (Arrival c.args.stream c.args.path c.args.octets.now) whole refl refl (c.push_or_skip.ensures.handed c.if-not-push_or_skip.false) due
