use Rattle.std.proofs.Common.{◌≡◌, ◌+◌, ◌^◌, ◌++◌, ◌∙◌, pos, ◌≤ℤ◌, refl, subst, arith, to_z, of_z, w64}
use Rattle.std.proofs.lemmas.Int.{ints}
use Rattle.studio_session.specs.Fault.{time_at}
use Rattle.studio_engine.specs.Session.{HasSession, turned}
use Rattle.pcap_replay.specs.declared.fault.ReplayFault.TheVariants.{Write}
use Rattle.pcap_replay.proofs.CaseLemmas.{told}
use Rattle.pcap_replay.proofs.EventLemmas.{first_turned, first_turning, open_turned, turned_alike}
use Rattle.pcap_replay.proofs.LineLemmas.{takes}
use Rattle.pcap_replay.specs.Reasons.{IsCount}
use Rattle.pcap_replay.proofs.ReasonLemmas.{clock_far, clock_refused, taken_order}
use Rattle.pcap_replay.proofs.ReplayLemmas.{broke_more, wrote_more}
use Rattle.pcap_replay.proofs.state.ReplayState.turn.Goals as goal

pub returns-clause-ok : goal.returns-clause-ok
returns-clause-ok g c = λ studio events written begun r.
    let before : to_z w64 (of_z w64 c.time-time.result) ≡ c.time-time.result = omega (arith, ints, c.time-time.type_inv) in
    let engine = c.args.self.now.engine in
    let reading : to_z w64 (of_z w64 c.in-Some.now) ≡ pos (c.args.from + c.args.reading) = omega (arith, ints, c.in-Some.ensures.value, c.in-Some.ensures.small) in
    let fine = takes engine.time engine.closed _ c.refuses.result (r.session.closed ∙ r.open_yet) c.refuses.ensures c.if-refuses.false in
    let time = before ∙ c.time-time.ensures.value in
    let order = taken_order _ engine.time _ engine.closed time fine in
    let gives = c.in_ok-write_turn.ensures.ok studio events r.datagrams begun r.session fine in
    record {
      datagrams = r.datagrams ++ gives.more;
      session = subst (λ l. HasSession studio c.write_turn.new.engine l (r.datagrams ++ gives.more))
          (turned_alike engine.time (to_z w64 (of_z w64 c.in-Some.now)) (time_at studio.open_at events) (pos (c.args.from + c.args.reading)) events r.session.time reading) gives.stands;
      idle = c.in_ok-write_turn.ensures.idle studio events r.datagrams r.session fine;
      open_yet = open_turned (time_at studio.open_at events) (pos (c.args.from + c.args.reading)) events r.open_yet;
      counted = subst (λ l. IsCount studio.open_at l c.count_reading-self.result)
          (turned_alike (to_z w64 (of_z w64 c.time-time.result)) (to_z w64 (of_z w64 c.in-Some.now)) (time_at studio.open_at events) (pos (c.args.from + c.args.reading)) events (time ∙ r.session.time) reading)
          (c.count_reading-self.ensures studio.open_at events (time ∙ r.session.time) order.0 order.1 r.counted);
      wrote = wrote_more _ _ _ _ _ r.datagrams gives.more r.wrote gives.wrote;
      told = subst (λ l. g.L.ReplayObserver.heard begun c.report_reading.new.observer l (r.datagrams ++ gives.more))
          (turned_alike (to_z w64 (of_z w64 c.time-time.result)) (to_z w64 (of_z w64 c.in-Some.now)) (time_at studio.open_at events) (pos (c.args.from + c.args.reading)) events (before ∙ (c.time-time.ensures.value ∙ r.session.time)) reading)
          (c.report_reading.ensures begun events (r.datagrams ++ gives.more) (gives.told events r.told));
    }

pub returns-in_err-write_turn-clause-fault : goal.returns-in_err-write_turn-clause-fault
returns-in_err-write_turn-clause-fault g c =
    let engine = c.args.self.now.engine in
    let last = c.write_turn.new.engine in
    let reading : to_z w64 (of_z w64 c.in-Some.now) ≡ pos (c.args.from + c.args.reading) = omega (arith, ints, c.in-Some.ensures.value, c.in-Some.ensures.small) in
    told _ Write c.from_residual.result c.from_residual.ensures.1 (λ studio events written begun r.
    let fine = takes engine.time engine.closed _ c.refuses.result (r.session.closed ∙ r.open_yet) c.refuses.ensures c.if-refuses.false in
    record {
      events = turned engine.time last.time events;
      first = first_turning engine.time last.time (to_z w64 (of_z w64 c.in-Some.now)) (time_at studio.open_at events) (pos (c.args.from + c.args.reading)) events c.write_turn.ensures.time r.session.time reading;
      reason = tt;
      at = broke_more studio last (turned engine.time last.time events) events written _ _ _ _ _ r.datagrams r.wrote (first_turned engine.time last.time events) r.told (c.in_err-write_turn.ensures.fault studio events r.datagrams begun r.session fine);
    })

pub returns-in_default-clause-fault : goal.returns-in_default-clause-fault
returns-in_default-clause-fault g c = λ studio events written begun r. record {
  events = events;
  first = first_turned (time_at studio.open_at events) (pos (c.args.from + c.args.reading)) events;
  at = r;
  reason =
      let early : time_at studio.open_at events ≤ℤ pos (2 ^ 60) = subst (λ t. t ≤ℤ pos (2 ^ 60)) (c.time-time.ensures.value ∙ r.session.time) c.time-time.ensures.not_late in
      clock_far studio events (c.args.from + c.args.reading) c.args.self.now.count r.session.lawful r.open_yet r.counted.whole early (c.in_default.ensures.none refl);
}

pub returns-then-refuses-clause-fault : goal.returns-then-refuses-clause-fault
returns-then-refuses-clause-fault g c = λ studio events written begun r.
    let engine = c.args.self.now.engine in
    let reading : to_z w64 (of_z w64 c.in-Some.now) ≡ pos (c.args.from + c.args.reading) = omega (arith, ints, c.in-Some.ensures.value, c.in-Some.ensures.small) in
    record {
      events = events;
      first = first_turned (time_at studio.open_at events) (pos (c.args.from + c.args.reading)) events;
      at = r;
      reason = clock_refused studio events engine.time _ (pos (c.args.from + c.args.reading)) c.args.self.now.count c.refuses.result r.session.lawful r.open_yet r.counted.whole r.session.time reading
          (subst (λ t. t ≤ℤ pos (2 ^ 60)) c.time-time.ensures.value c.time-time.ensures.not_late) c.refuses.ensures c.if-refuses.true;
    }
