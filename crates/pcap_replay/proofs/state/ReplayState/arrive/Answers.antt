use Rattle.std.proofs.Common.{◌≡◌, ◌≤◌, ◌++◌, ◌∷◌, [], ◌∙◌, false, sym, ap, subst, arith, rules}
use Rattle.studio_session.specs.Event.{Arrival, TraceEvent}
use Rattle.studio_session.proofs.FaultLemmas.{closed_more}
use Rattle.studio_engine.specs.Session.{HasSession}
use Rattle.studio_engine.specs.Engine.{EngineState, arrive_fault_of}
use Rattle.pcap_replay.specs.Reasons.{IsFirstFault, IsOfEvent}
use Rattle.pcap_replay.specs.Replay.{IsRun}
use Rattle.pcap_replay.proofs.EventLemmas.{first_more}
use Rattle.pcap_replay.proofs.ReasonLemmas.{arrival_few, count_arrival, path_event, path_first, path_run, refused_event, refused_first, refused_run}
use Rattle.pcap_replay.proofs.ReplayLemmas.{stops_at_run, streams_of_session}
use Rattle.pcap_replay.proofs.state.ReplayState.arrive.Goals as goal

pub returns-in-Ok-clause-ok : goal.returns-in-Ok-clause-ok
returns-in-Ok-clause-ok g c = λ studio events written then begun r.
    let target = c.args.target in
    let octets = c.args.octets.now in
    let event : TraceEvent = Arrival target.stream target.path octets in
    let same : Arrival target.stream c.in-Some.path octets ≡ event = ap (λ p. Arrival target.stream p octets) c.in-Some.ensures.value in
    record {
      datagrams = r.datagrams;
      session = subst (λ e. HasSession studio c.arrive.new.self (events ++ e ∷ []) r.datagrams) same (c.in-Ok.ensures.stands studio events r.datagrams r.session);
      idle = c.in-Ok.ensures.turning ∙ r.idle;
      counted = count_arrival studio.open_at events target.stream target.path c.args.self.now.count _ octets c.saturating_add-self.ensures
          (let few = arrival_few c.args.self.now.engine target.stream c.in-Some.path c.in-Ok.ensures.fine in
          let whole = r.counted.whole in
          let count = r.session.count in
          omega (arith, few, whole, count)) r.counted;
      open_yet = closed_more false events event ∙ r.open_yet;
      wrote = r.wrote;
      told = subst (λ e. g.L.ReplayObserver.heard begun c.arrived.new.self (events ++ e ∷ []) r.datagrams) same (c.arrived.ensures.heard begun events r.datagrams r.told);
    }

pub returns-in_default-clause-fault : goal.returns-in_default-clause-fault
returns-in_default-clause-fault g c = λ studio events written then begun r.
    let target = c.args.target in
    let engine = c.args.self.now.engine in
    let octets = c.args.octets.now in
    let past : 4 ≤ target.path = search rules in
    let found = c.path_fault_of.ensures target.path past in
    record {
      events = events;
      first = first_more events (Arrival target.stream target.path octets ∷ []);
      at = stops_at_run studio events written then (g.L.ReplayObserver.heard begun c.args.observer.now) c.args.self.now c.path_fault_of.result (path_run c.args.self.now.count target.path _ c.path_fault_of.result found) r;
      reason = path_first studio engine events r.datagrams target.stream target.path c.args.self.now.count octets c.path_fault_of.result (streams_of_session studio engine events r.datagrams r.session) r.session r.counted.whole found;
    }

pub returns-in_default-clause-kind : goal.returns-in_default-clause-kind
returns-in_default-clause-kind g c =
    let past : 4 ≤ c.args.target.path = search rules in
    path_run c.args.self.now.count c.args.target.path _ c.path_fault_of.result (c.path_fault_of.ensures c.args.target.path past)

pub returns-in-Err-clause-fault : goal.returns-in-Err-clause-fault
returns-in-Err-clause-fault g c = λ studio events written then begun r.
    let target = c.args.target in
    let engine = c.args.self.now.engine in
    let octets = c.args.octets.now in
    let fault = c.in-Err.fault in
    let count = c.args.self.now.count in
    let path : c.in-Some.path ≡ target.path = c.in-Some.ensures.value in
    record {
      events = events;
      first = first_more events (Arrival target.stream target.path octets ∷ []);
      at = stops_at_run studio events written then (g.L.ReplayObserver.heard begun c.args.observer.now) _ c.fault_at.result (subst IsRun (sym c.fault_at.ensures) (refused_run count fault))
          (record {
            datagrams = r.datagrams;
            session = subst (λ (e : EngineState). HasSession studio e events r.datagrams) (sym c.in-Err.ensures.kept) r.session;
            idle = ap (λ (e : EngineState). e.turning) c.in-Err.ensures.kept ∙ r.idle;
            open_yet = r.open_yet;
            counted = r.counted;
            wrote = r.wrote;
            told = r.told;
          });
      reason = subst (IsFirstFault studio (events ++ Arrival target.stream target.path octets ∷ [])) (sym c.fault_at.ensures)
          (refused_first studio engine events r.datagrams target.stream target.path count octets fault (streams_of_session studio engine events r.datagrams r.session) r.session r.idle r.counted.whole
          (ap (arrive_fault_of engine target.stream) (sym path) ∙ c.in-Err.ensures.fault));
    }

pub returns-in-Err-clause-kind : goal.returns-in-Err-clause-kind
returns-in-Err-clause-kind g c = subst IsRun (sym c.fault_at.ensures) (refused_run c.args.self.now.count c.in-Err.fault)

pub returns-in_default-clause-of_event : goal.returns-in_default-clause-of_event
returns-in_default-clause-of_event g c =
    let past : 4 ≤ c.args.target.path = search rules in
    path_event c.args.self.now.count c.args.target.path _ c.path_fault_of.result (c.path_fault_of.ensures c.args.target.path past)

pub returns-in-Err-clause-of_event : goal.returns-in-Err-clause-of_event
returns-in-Err-clause-of_event g c = subst IsOfEvent (sym c.fault_at.ensures) (refused_event c.args.self.now.count c.in-Err.fault)
