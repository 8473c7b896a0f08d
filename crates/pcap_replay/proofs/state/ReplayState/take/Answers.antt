use Rattle.std.proofs.Common.{◌≡◌, sym, subst, ◌∙◌}
use Rattle.pcap_file.specs.Packet.{packet_view}
use Rattle.studio_mix.specs.Changed.{with_changes}
use Rattle.pcap_replay.specs.Causes.{count_on}
use Rattle.pcap_replay.specs.Events.{events_with}
use Rattle.pcap_replay.specs.RecordChanges.{changes_with}
use Rattle.pcap_replay.specs.Replay.{HasReplayed}
use Rattle.pcap_replay.specs.Routing.{opening_of, plan_view, role_of}
use Rattle.pcap_replay.specs.declared.routing.PacketRole.TheVariants as role
use Rattle.pcap_replay.proofs.CaseLemmas.{err_then, ok_then}
use Rattle.pcap_replay.proofs.CauseLemmas.{packet_by}
use Rattle.pcap_replay.proofs.state.ReplayState.take.Goals as goal

-- the role of the packet is that of a datagram, which changes no gains
pub returns-in-Arrival-clause-ok : goal.returns-in-Arrival-clause-ok
returns-in-Arrival-clause-ok g c =
    let plan = plan_view c.args.plan.now in
    let packet = packet_view c.args.packet.now in
    let clock = c.args.self.now.clock in
    let target = c.in-Arrival.target in
    let last = g.W.Write.contents c.take_arrival.new.writer in
    let is : role.Arrival target ≡ role_of plan packet = sym c.in-Arrival.is ∙ c.role.ensures in
    ok_then c.take_arrival.result _ _ (λ replayed studio events written begun r.
    let heard = g.L.ReplayObserver.heard begun c.take_arrival.new.observer in
    subst (λ o. HasReplayed (with_changes studio (changes_with (opening_of plan) packet o)) (events_with studio.open_at (opening_of plan) clock events packet o) written c.take_arrival.new.self last heard) is
    (subst (λ n. HasReplayed studio (events_with studio.open_at n clock events packet (role.Arrival target)) written c.take_arrival.new.self last heard) c.opening.ensures (replayed studio events written begun r))) c.take_arrival.ensures.ok

-- a fault of a datagram or a change, by the rule and the role of the plan
pub returns-in-Arrival-clause-cause : goal.returns-in-Arrival-clause-cause
returns-in-Arrival-clause-cause g c =
    let plan = plan_view c.args.plan.now in
    let packet = packet_view c.args.packet.now in
    let is : role.Arrival c.in-Arrival.target ≡ role_of plan packet = sym c.in-Arrival.is ∙ c.role.ensures in
    err_then c.take_arrival.result _ _ (λ fault why.
    packet_by plan c.opening.result c.longest_step.result c.args.place c.args.self.now.clock c.args.self.now.changes c.take_arrival.new.self.engine.mixer packet (role.Arrival c.in-Arrival.target) fault c.opening.ensures c.longest_step.ensures is why) c.take_arrival.ensures.cause

pub returns-in-Arrival-clause-changes : goal.returns-in-Arrival-clause-changes
returns-in-Arrival-clause-changes g c =
    let plan = plan_view c.args.plan.now in
    let packet = packet_view c.args.packet.now in
    let is : role.Arrival c.in-Arrival.target ≡ role_of plan packet = sym c.in-Arrival.is ∙ c.role.ensures in
    ok_then c.take_arrival.result _ _ (λ same. subst (λ o. c.take_arrival.new.self.changes ≡ count_on c.args.self.now.changes (changes_with (opening_of plan) packet o)) is same) c.take_arrival.ensures.changes

pub returns-in-Change-clause-cause : goal.returns-in-Change-clause-cause
returns-in-Change-clause-cause g c =
    let plan = plan_view c.args.plan.now in
    let packet = packet_view c.args.packet.now in
    let is : role.Change ≡ role_of plan packet = sym c.in-Change.is ∙ c.role.ensures in
    err_then c.take_change.result _ _ (λ fault why.
    packet_by plan c.opening.result c.longest_step.result c.args.place c.args.self.now.clock c.args.self.now.changes c.take_change.new.self.engine.mixer packet role.Change fault c.opening.ensures c.longest_step.ensures is why) c.take_change.ensures.cause

pub returns-in-Change-clause-changes : goal.returns-in-Change-clause-changes
returns-in-Change-clause-changes g c =
    let plan = plan_view c.args.plan.now in
    let packet = packet_view c.args.packet.now in
    let is : role.Change ≡ role_of plan packet = sym c.in-Change.is ∙ c.role.ensures in
    ok_then c.take_change.result _ _ (λ same.
    subst (λ o. c.take_change.new.self.changes ≡ count_on c.args.self.now.changes (changes_with (opening_of plan) packet o)) is
    (subst (λ n. c.take_change.new.self.changes ≡ count_on c.args.self.now.changes (changes_with n packet role.Change)) c.opening.ensures same)) c.take_change.ensures.changes
