use Rattle.std.proofs.Common.{◌≡◌, ◌+◌, ◌++◌, ◌∷◌, [], None, Some, refl, sym, subst, ap, ◌∙◌, take, slice_get, w64}
use Rattle.std.proofs.lemmas.Int.{to_z-of_z}
use Rattle.path_merge.specs.Clock.{clock_fault_of}
use Rattle.rtp_stream.specs.declared.event.Event.TheVariants.{Tick as StreamTick}
use Rattle.studio_session.specs.Event.{Tick}
use Rattle.studio_session.specs.Session.{Clock, stream_history}
use Rattle.rtp_stream.specs.PathCounts.{tallies_of}
use Rattle.studio_session.specs.ReadingSteps.{IsOnWay}
use Rattle.studio_session.specs.Cursor.{CursorState, HasPulled}
use Rattle.studio_session.proofs.CountsLemmas.{few_later, uncounted}
use Rattle.studio_session.proofs.CursorLemmas.{pulled_more, set_out, settled}
use Rattle.studio_session.proofs.cursor.Cursor.set_out.Goals as goal

pub invariant_of-self : goal.invariant_of-self
invariant_of-self c = record {
  spec = c.self.invariant.spec;
  four = c.self.invariant.four;
  few = few_later c.self.inside.place (tallies_of c.self.inside.paths) c.self.invariant.few;
  can = c.reading_of-self-inside.ensures.can;
}

pub returns-clause-stands : goal.returns-clause-stands
returns-clause-stands c = λ stream number open_at events k run at pulled.
    let i = c.self.inside in
    let inside : CursorState = record { spec = i.spec; number = i.number; merge = i.merge; tallies = tallies_of i.paths; place = i.place; reading = i.reading } in
    let p : HasPulled stream number open_at events inside k = subst (λ s. HasPulled stream number open_at events s k) (sym c.self.view_is) pulled in
    let here : slice_get events i.place ≡ Some (Tick c.args.now) = subst (λ (s : CursorState). slice_get events s.place ≡ Some (Tick c.args.now)) (sym c.self.view_is) at in
    let h = stream_history stream number (take i.place events) in
    let none = ap (λ (s : CursorState). s.reading) c.self.view_is ∙ c.requires.settled in
    let way = set_out stream number open_at events i.place k c.args.now i.merge run here (settled stream open_at i.merge i.reading h k none p.stands) in
    let same = to_z-of_z w64 c.args.now c.ranges.now in
    let some : c.reading_of-self-inside.result ≡ Some c.args.now = c.reading_of-self-inside.ensures.some (subst (λ u. clock_fault_of i.merge.time i.merge.closed u ≡ None) (sym same) way.2) ∙ ap Some same in
    pulled_more stream number open_at events (Tick c.args.now) k inside (record inside { reading = c.reading_of-self-inside.result; place = i.place + 1 }) p here refl refl refl
    (uncounted inside.tallies (Clock c.args.now) (λ path tally. refl))
    (subst (λ r. IsOnWay stream open_at i.merge r (h ++ StreamTick c.args.now ∷ []) k) (sym some) way)
