use Rattle.std.proofs.Common.{◌≡◌, ◌+◌, Some, refl, sym, subst, ap, ◌∙◌, take, slice_get}
use Rattle.path_merge.specs.MergeState.{MergeState}
use Rattle.studio_session.specs.Event.{Closing}
use Rattle.studio_session.specs.Session.{End, stream_history}
use Rattle.rtp_stream.specs.PathCounts.{tallies_of}
use Rattle.studio_session.specs.Cursor.{CursorState, HasPulled}
use Rattle.studio_session.proofs.CountsLemmas.{few_later, uncounted}
use Rattle.studio_session.proofs.CursorLemmas.{can_settled, pulled_more, settled, way_settled}
use Rattle.studio_session.proofs.cursor.Cursor.close.Goals as goal

pub invariant_of-self : goal.invariant_of-self
invariant_of-self c = record {
  spec = ap (λ (m : MergeState). m.spec) c.close.ensures.changed ∙ c.self.invariant.spec;
  four = c.self.invariant.four;
  few = few_later c.self.inside.place (tallies_of c.self.inside.paths) c.self.invariant.few;
  can = can_settled c.close.new.self c.self.inside.reading (ap (λ (s : CursorState). s.reading) c.self.view_is ∙ c.requires.settled);
}

pub returns-clause-stands : goal.returns-clause-stands
returns-clause-stands c = λ stream number open_at events k at pulled.
    let i = c.self.inside in
    let inside : CursorState = record { spec = i.spec; number = i.number; merge = i.merge; tallies = tallies_of i.paths; place = i.place; reading = i.reading } in
    let p : HasPulled stream number open_at events inside k = subst (λ s. HasPulled stream number open_at events s k) (sym c.self.view_is) pulled in
    let here : slice_get events i.place ≡ Some Closing = subst (λ (s : CursorState). slice_get events s.place ≡ Some Closing) (sym c.self.view_is) at in
    let h = stream_history stream number (take i.place events) in
    let none = ap (λ (s : CursorState). s.reading) c.self.view_is ∙ c.requires.settled in
    pulled_more stream number open_at events Closing k inside (record inside { merge = c.close.new.self; place = i.place + 1 }) p here refl refl refl
    (uncounted inside.tallies End (λ path tally. refl))
    (way_settled stream open_at c.close.new.self i.reading _ k none (c.close.ensures.stands stream open_at h k (settled stream open_at i.merge i.reading h k none p.stands)))
