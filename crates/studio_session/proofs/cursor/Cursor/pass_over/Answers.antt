use Rattle.std.proofs.Common.{◌≡◌, ◌+◌, ◌++◌, Some, refl, sym, subst, append-nil, take, slice_get}
use Rattle.studio_session.specs.Session.{Other, event_in, stream_history}
use Rattle.rtp_stream.specs.PathCounts.{tallies_of}
use Rattle.studio_session.specs.Counts.{HasCounted}
use Rattle.studio_session.specs.ReadingSteps.{IsOnWay}
use Rattle.studio_session.specs.Cursor.{CursorState, HasPulled}
use Rattle.studio_session.proofs.CountsLemmas.{few_later, uncounted}
use Rattle.studio_session.proofs.CursorLemmas.{pulled_more}
use Rattle.studio_session.proofs.cursor.Cursor.pass_over.Goals as goal

pub invariant_of-self : goal.invariant_of-self
invariant_of-self c = record {
  spec = c.self.invariant.spec;
  four = c.self.invariant.four;
  few = few_later c.self.inside.place (tallies_of c.self.inside.paths) c.self.invariant.few;
  can = c.self.invariant.can;
}

pub returns-clause-stands : goal.returns-clause-stands
returns-clause-stands c = λ stream number open_at events event k at is pulled.
    let i = c.self.inside in
    let inside : CursorState = record { spec = i.spec; number = i.number; merge = i.merge; tallies = tallies_of i.paths; place = i.place; reading = i.reading } in
    let p : HasPulled stream number open_at events inside k = subst (λ s. HasPulled stream number open_at events s k) (sym c.self.view_is) pulled in
    let here : slice_get events i.place ≡ Some event = subst (λ (s : CursorState). slice_get events s.place ≡ Some event) (sym c.self.view_is) at in
    let h = stream_history stream number (take i.place events) in
    pulled_more stream number open_at events event k inside (record inside { place = i.place + 1 }) p here refl refl refl
    (subst (λ s. HasCounted s inside.tallies inside.tallies) (sym is) (uncounted inside.tallies Other (λ path tally. refl)))
    (subst (λ s. IsOnWay stream open_at i.merge i.reading (h ++ event_in s) k) (sym is) (subst (λ l. IsOnWay stream open_at i.merge i.reading l k) (sym (append-nil h)) p.stands))
