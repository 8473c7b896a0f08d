use Rattle.std.proofs.Common.{◌++◌, option_map, sym, ap, subst}
use Rattle.std.specs.Option.{option_to_list}
use Rattle.pcap_file.specs.Packet.{packet_view}
use Rattle.pcap_replay.specs.Events.{events_of}
use Rattle.pcap_replay.specs.Routing.{plan_view}
use Rattle.pcap_replay.specs.RecordChanges.{changed_by}
use Rattle.pcap_replay.specs.Replay.{HasTaken, Stops}
use Rattle.pcap_replay.proofs.CaseLemmas.{err_then, ok_four}
use Rattle.pcap_replay.proofs.ReplayLemmas.{stops_more, taken_more, taken_same}
use Rattle.pcap_replay.proofs.state.ReplayState.take_part.Goals as goal

pub returns-in-Some-clause-ok : goal.returns-in-Some-clause-ok
returns-in-Some-clause-ok g c =
    let plan = plan_view c.args.plan.now in
    let then = g.W.Write.contents c.take.new.writer in
    ok_four c.take.result _ _ _ _ _ (λ replayed clock step counts studio packets written begun taken.
    subst (λ o. HasTaken studio plan (packets ++ option_to_list (option_map packet_view o)) written c.take.new.self then (g.L.ReplayObserver.heard begun c.take.new.observer)) (sym c.in-Some.is)
    (taken_more studio plan packets (packet_view c.in-Some.packet) written _ then _ (g.L.ReplayObserver.heard begun c.take.new.observer) c.args.self.now c.take.new.self taken clock step counts (replayed (changed_by studio plan packets) (events_of studio plan packets) written begun taken.replayed)))
    c.take.ensures.ok c.take.ensures.clock c.take.ensures.steady c.take.ensures.changes

pub returns-in-Some-clause-fault : goal.returns-in-Some-clause-fault
returns-in-Some-clause-fault g c =
    let plan = plan_view c.args.plan.now in
    let then = g.W.Write.contents c.take.new.writer in
    err_then c.take.result _ _ (λ fault stops studio packets written begun taken.
    subst (λ o. Stops (changed_by studio plan packets) (events_of studio plan (packets ++ option_to_list (option_map packet_view o))) written c.take.new.self then (g.L.ReplayObserver.heard begun c.take.new.observer) fault) (sym c.in-Some.is)
    (stops_more studio plan packets (packet_view c.in-Some.packet) written _ then _ (g.L.ReplayObserver.heard begun c.take.new.observer) c.args.self.now c.take.new.self fault taken (stops (changed_by studio plan packets) (events_of studio plan packets) written begun taken.replayed)))
    c.take.ensures.fault

pub returns-in-None-clause-ok : goal.returns-in-None-clause-ok
returns-in-None-clause-ok g c = λ studio packets written begun taken.
    subst (λ o. HasTaken studio (plan_view c.args.plan.now) (packets ++ option_to_list (option_map packet_view o)) written c.args.self.now (g.W.Write.contents c.args.writer.now) (g.L.ReplayObserver.heard begun c.args.observer.now)) (sym c.in-None.is)
    (taken_same studio (plan_view c.args.plan.now) packets written _ _ c.args.self.now taken)

pub returns-in-Some-clause-cause : goal.returns-in-Some-clause-cause
returns-in-Some-clause-cause g c =
    err_then c.take.result _ _ (λ fault why. (packet_view c.in-Some.packet, ap (λ o. option_to_list (option_map packet_view o)) c.in-Some.is, why)) c.take.ensures.cause
