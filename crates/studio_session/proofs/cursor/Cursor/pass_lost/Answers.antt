use Rattle.std.proofs.Common.{◌≡◌, Some, None, FitsSigned, to_z, of_z, w64, rules, sym, ap, subst, ◌∙◌}
use Rattle.std.proofs.lemmas.Int.{to_z-of_z}
use Rattle.path_merge.specs.Clock.{clock_fault_of}
use Rattle.path_merge.specs.MergeState.{MergeState}
use Rattle.path_merge.specs.PassLost.{LosesSlots, lost_due}
use Rattle.rtp_stream.specs.PathCounts.{tallies_of}
use Rattle.studio_session.specs.Cursor.{CursorState, HasPulled}
use Rattle.studio_session.specs.LostStretch.{PassesStretch}
use Rattle.studio_session.proofs.LostStretchLemmas.{passes_none, passes_some}
use Rattle.studio_session.proofs.cursor.Cursor.pass_lost.Goals as goal

pub returns-then-count-eq0-clause-stands : goal.returns-then-count-eq0-clause-stands
returns-then-count-eq0-clause-stands c = λ stream number open_at events k run pulled.
    let i = c.self.inside in
    let same : c.pass_lost-count.new.self ≡ i.merge = c.pass_lost-count.ensures.none c.if-count-eq0.true in
    subst (λ (m : MergeState). PassesStretch stream number open_at events c.args.self.now (record { spec = i.spec; number = i.number; merge = m; tallies = tallies_of i.paths; place = i.place; reading = i.reading }) k None) (sym same)
    (subst (λ s. PassesStretch stream number open_at events c.args.self.now s k None) (sym c.self.view_is) (passes_none stream number open_at events c.args.self.now k pulled))

pub returns-clause-stands : goal.returns-clause-stands
returns-clause-stands c = λ stream number open_at events k run pulled.
    let i = c.self.inside in
    let new = c.pass_lost-count.new.self in
    let inside : CursorState = record { spec = i.spec; number = i.number; merge = i.merge; tallies = tallies_of i.paths; place = i.place; reading = i.reading } in
    let p : HasPulled stream number open_at events inside k = subst (λ s. HasPulled stream number open_at events s k) (sym c.self.view_is) pulled in
    let fits : FitsSigned w64 c.in_ok-now.now = search rules in
    let now_is : to_z w64 (of_z w64 c.in_ok-now.now) ≡ c.in_ok-now.now = to_z-of_z w64 c.in_ok-now.now fits in
    subst (λ (s : CursorState). PassesStretch stream number open_at events s (record inside { merge = new }) k (Some (record { media = to_z w64 (of_z w64 c.in_ok-media.media); count = c.pass_lost-count.result }))) c.self.view_is
    (passes_some stream number open_at events inside new c.in_ok-now.now (to_z w64 (of_z w64 c.in_ok-media.media)) k c.pass_lost-count.result run.some_frames p c.in_ok-now.was
    (λ so_far at. subst (λ z. LosesSlots stream open_at i.merge new so_far k z c.pass_lost-count.result) now_is (c.pass_lost-count.ensures.stands stream open_at so_far k at))
    (subst (λ z. clock_fault_of new.time new.closed z ≡ None) now_is c.pass_lost-count.ensures.can)
    (c.pass_lost-count.ensures.value ∙ ap (lost_due i.merge) now_is))
