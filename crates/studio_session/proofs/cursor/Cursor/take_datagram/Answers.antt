use Rattle.std.proofs.Common.{◌≡◌, ◌<◌, ◌+◌, ◌++◌, Some, refl, sym, subst, ap, ◌∙◌, take, slice_get}
use Rattle.rtp_stream.specs.declared.stream_spec.Stream.{Stream}
use Rattle.studio_session.specs.Event.{Arrival}
use Rattle.rtp_stream.specs.Reception.{FitsReception, reception_from, reception_of}
use Rattle.studio_session.specs.Session.{Datagram, event_in, step_of, stream_history}
use Rattle.rtp_stream.specs.PathCounts.{tallies_of}
use Rattle.studio_session.specs.Counts.{HasCounted}
use Rattle.studio_session.specs.ArriveOutcome.{outcome_in}
use Rattle.studio_session.specs.ReadingSteps.{IsOnWay}
use Rattle.studio_session.specs.Cursor.{CursorState, HasPulled}
use Rattle.studio_session.proofs.CountsLemmas.{few_more}
use Rattle.studio_session.proofs.CursorLemmas.{can_settled, own_arrival, pulled_more, settled, way_settled}
use Rattle.studio_session.proofs.cursor.Cursor.take_datagram.Goals as goal

pub count_on-requires : goal.count_on-requires
count_on-requires c =
    let place : c.self.inside.place < _ = subst (λ (s : CursorState). s.place < _) (sym c.self.view_is) c.requires.place in
    (c.self.inside.place, place, c.self.invariant.few)

pub offer_received-outcome-requires-clause-path : goal.offer_received-outcome-requires-clause-path
offer_received-outcome-requires-clause-path c =
    let spec = c.self.invariant.spec ∙ ap (λ (s : CursorState). s.spec) c.self.view_is in
    subst (λ (s : Stream). c.args.path < s.paths) (sym spec) c.requires.path

pub offer_received-outcome-requires-clause-fits : goal.offer_received-outcome-requires-clause-fits
offer_received-outcome-requires-clause-fits c = subst (λ s. FitsReception s (reception_from c.receive_ref-reception.result)) (sym c.self.invariant.spec) c.receive_ref-reception.ensures.fits

pub invariant_of-self : goal.invariant_of-self
invariant_of-self c = record {
  spec = c.offer_received-outcome.ensures.spec ∙ c.self.invariant.spec;
  four = c.count_on.ensures.four;
  few = few_more c.self.inside.place (Datagram c.args.path (reception_from c.receive_ref-reception.result)) (tallies_of c.self.inside.paths) (tallies_of c.count_on.new.paths) c.self.invariant.few c.count_on.ensures.counted;
  can = can_settled c.offer_received-outcome.new.merge c.self.inside.reading (ap (λ (s : CursorState). s.reading) c.self.view_is ∙ c.requires.settled);
}

pub returns-clause-stands : goal.returns-clause-stands
returns-clause-stands c = λ stream number open_at events k at pulled.
    let i = c.self.inside in
    let inside : CursorState = record { spec = i.spec; number = i.number; merge = i.merge; tallies = tallies_of i.paths; place = i.place; reading = i.reading } in
    let path = c.args.path in
    let octets = c.args.octets.now in
    let p : HasPulled stream number open_at events inside k = subst (λ s. HasPulled stream number open_at events s k) (sym c.self.view_is) pulled in
    let here : slice_get events i.place ≡ Some (Arrival number path octets) = subst (λ (s : CursorState). slice_get events s.place ≡ Some (Arrival number path octets)) (sym c.self.view_is) at in
    let h = stream_history stream number (take i.place events) in
    let none = ap (λ (s : CursorState). s.reading) c.self.view_is ∙ c.requires.settled in
    let reception = reception_from c.receive_ref-reception.result in
    let is : step_of stream number (Arrival number path octets) ≡ Datagram path reception =
    own_arrival stream number path octets ∙ ap (Datagram path) (ap (λ s. reception_of s octets) (sym p.spec) ∙ sym c.receive_ref-reception.ensures.value) in
    pulled_more stream number open_at events (Arrival number path octets) k inside (record inside { merge = c.offer_received-outcome.new.merge; tallies = tallies_of c.count_on.new.paths; place = i.place + 1 }) p here refl refl refl
    (subst (λ s. HasCounted s inside.tallies (tallies_of c.count_on.new.paths)) (sym is) c.count_on.ensures.counted)
    (subst (λ s. IsOnWay stream open_at c.offer_received-outcome.new.merge i.reading (h ++ event_in s) k) (sym is)
    (way_settled stream open_at c.offer_received-outcome.new.merge i.reading (h ++ event_in (Datagram path reception)) k none (c.offer_received-outcome.ensures.stands stream open_at h k (settled stream open_at i.merge i.reading h k none p.stands))))

pub returns-clause-outcome : goal.returns-clause-outcome
returns-clause-outcome c = λ stream number open_at events k pulled.
    let i = c.self.inside in
    let inside : CursorState = record { spec = i.spec; number = i.number; merge = i.merge; tallies = tallies_of i.paths; place = i.place; reading = i.reading } in
    let path = c.args.path in
    let octets = c.args.octets.now in
    let p : HasPulled stream number open_at events inside k = subst (λ s. HasPulled stream number open_at events s k) (sym c.self.view_is) pulled in
    let h = stream_history stream number (take i.place events) in
    let none = ap (λ (s : CursorState). s.reading) c.self.view_is ∙ c.requires.settled in
    let told = c.offer_received-outcome.ensures.outcome stream open_at h k (settled stream open_at i.merge i.reading h k none p.stands) in
    told
    ∙ ap (outcome_in stream open_at h path) (c.receive_ref-reception.ensures.value ∙ ap (λ s. reception_of s octets) p.spec)
    ∙ ap (λ n. outcome_in stream open_at (stream_history stream number (take n events)) path (reception_of stream octets)) (ap (λ (s : CursorState). s.place) c.self.view_is)
