use Rattle.std.proofs.lemmas.Grind.{elements}
use Rattle.std.proofs.Common.{◌≡◌, ℕ, List, None, if◌then◌else◌, sym, subst, ap, arith}
use Rattle.rtp_stream.specs.declared.event.Event.{Event}
use Rattle.path_merge.specs.Merge.{HasHistory}
use Rattle.path_merge.specs.Goal.{Gives, MovesTo, next_to}
use Rattle.path_merge.specs.Steps.{is_slot_mark}
use Rattle.rtp_stream.specs.PathCounts.{tallies_of}
use Rattle.studio_session.specs.Cursor.{CursorState, HasPulled, IsOnTheWay, next_of}
use Rattle.studio_session.proofs.CursorLemmas.{passed}
use Rattle.studio_session.proofs.cursor.Cursor.pass.Goals as goal

pub returns-then-not-more-clause-stands : goal.returns-then-not-more-clause-stands
returns-then-not-more-clause-stands c = λ stream number open_at events k run pulled.
    let i = c.self.inside in
    let new = c.pass_to-more.new.self in
    let inside : CursorState = record { spec = i.spec; number = i.number; merge = i.merge; tallies = tallies_of i.paths; place = i.place; reading = i.reading } in
    let p : HasPulled stream number open_at events inside k = subst (λ s. HasPulled stream number open_at events s k) (sym c.self.view_is) pulled in
    subst (λ (s : CursorState). IsOnTheWay stream number open_at events (record inside { merge = new; reading = None }) k (next_of s)) c.self.view_is
    (passed stream number open_at events k inside new c.pass_to-more.result None run p
    (subst (λ g. (h : List Event) (j : ℕ) → HasHistory stream open_at i.merge h j → Gives stream open_at i.merge new h j g (next_to i.merge g)) c.goal_of.ensures (λ h j at. c.pass_to-more.ensures.stands stream open_at h j at))
    (subst (λ g. MovesTo i.merge new g (next_to i.merge g)) c.goal_of.ensures c.pass_to-more.ensures.moved)
    (subst (λ g. c.pass_to-more.result ≡ is_slot_mark (next_to i.merge g)) c.goal_of.ensures c.pass_to-more.ensures.slot)
    (sym (ap (λ b. if b then i.reading else None) c.if-not-more.true)))

pub returns-else-not-more-clause-stands : goal.returns-else-not-more-clause-stands
returns-else-not-more-clause-stands c = λ stream number open_at events k run pulled.
    let i = c.self.inside in
    let new = c.pass_to-more.new.self in
    let inside : CursorState = record { spec = i.spec; number = i.number; merge = i.merge; tallies = tallies_of i.paths; place = i.place; reading = i.reading } in
    let p : HasPulled stream number open_at events inside k = subst (λ s. HasPulled stream number open_at events s k) (sym c.self.view_is) pulled in
    subst (λ (s : CursorState). IsOnTheWay stream number open_at events (record inside { merge = new; reading = i.reading }) k (next_of s)) c.self.view_is
    (passed stream number open_at events k inside new c.pass_to-more.result i.reading run p
    (subst (λ g. (h : List Event) (j : ℕ) → HasHistory stream open_at i.merge h j → Gives stream open_at i.merge new h j g (next_to i.merge g)) c.goal_of.ensures (λ h j at. c.pass_to-more.ensures.stands stream open_at h j at))
    (subst (λ g. MovesTo i.merge new g (next_to i.merge g)) c.goal_of.ensures c.pass_to-more.ensures.moved)
    (subst (λ g. c.pass_to-more.result ≡ is_slot_mark (next_to i.merge g)) c.goal_of.ensures c.pass_to-more.ensures.slot)
    (sym (ap (λ b. if b then i.reading else None) c.if-not-more.false)))

pub returns-then-not-more-clause-fewer : goal.returns-then-not-more-clause-fewer
returns-then-not-more-clause-fewer c = grind (arith, elements)
