use Rattle.std.proofs.Common.{◌≡◌, ◌++◌, ◌∷◌, [], Err, refl, subst, rules}
use Rattle.pcap_file.specs.Packet.{packet_view}
use Rattle.pcap_flows.specs.Clock.{clock_with}
use Rattle.pcap_flows.specs.Trace.{octets_of}
use Rattle.studio_session.specs.Event.{Arrival}
use Rattle.pcap_replay.specs.Events.{events_with, read_at}
use Rattle.pcap_replay.specs.Replay.{Stops}
use Rattle.pcap_replay.specs.declared.routing.PacketRole.TheVariants as role
use Rattle.pcap_replay.proofs.CaseLemmas.{err_then}
use Rattle.pcap_replay.proofs.CauseLemmas.{event_packet, reading_packet}
use Rattle.pcap_replay.proofs.EventLemmas.{first_more}
use Rattle.pcap_replay.proofs.ReplayLemmas.{stops_longer}
use Rattle.pcap_replay.proofs.state.ReplayState.take_arrival.Goals as goal

pub returns-in_err-read-clause-fault : goal.returns-in_err-read-clause-fault
returns-in_err-read-clause-fault g c =
    let fault = c.in_err-read.field-0.0 in
    let is : c.from_residual.result ≡ Err fault = search rules in
    let packet = packet_view c.args.packet.now in
    let clock = c.args.self.now.clock in
    let target = c.args.target in
    rw is (λ studio events written begun r.
    let before = read_at studio.open_at c.args.rule.from events clock.reading (clock_with clock packet.time).reading in
    stops_longer studio before (events_with studio.open_at c.args.rule.from clock events packet (role.Arrival target)) written _ _ c.read.new.self fault
    (first_more before (Arrival target.stream target.path (octets_of packet.ip.body) ∷ []))
    (c.in_err-read.ensures.fault studio events written begun r))

pub returns-clause-fault : goal.returns-clause-fault
returns-clause-fault g c =
    let packet = packet_view c.args.packet.now in
    let clock = c.args.self.now.clock in
    let target = c.args.target in
    let last = g.W.Write.contents c.read.new.writer in
    err_then c.arrive.result _ _ (λ fault stops studio events written begun r.
    let before = read_at studio.open_at c.args.rule.from events clock.reading (clock_with clock packet.time).reading in
    subst (λ l. Stops studio (before ++ Arrival target.stream target.path l ∷ []) written c.arrive.new.self last (g.L.ReplayObserver.heard begun c.arrive.new.observer) fault) c.datagram_octets.ensures
    (stops studio before written last begun (c.in_ok-read.ensures.ok studio events written begun r))) c.arrive.ensures.fault

pub returns-in_err-read-clause-cause : goal.returns-in_err-read-clause-cause
returns-in_err-read-clause-cause g c =
    let fault = c.in_err-read.field-0.0 in
    let is : c.from_residual.result ≡ Err fault = search rules in
    let clock = c.args.self.now.clock in
    rw is (reading_packet c.args.rule clock c.args.self.now.changes c.read.new.self.engine.mixer (packet_view c.args.packet.now) (role.Arrival c.args.target) (clock_with clock c.args.packet.now.time) fault refl c.in_err-read.ensures.jump)

pub returns-clause-cause : goal.returns-clause-cause
returns-clause-cause g c =
    err_then c.arrive.result _ _ (λ fault is. event_packet c.args.rule c.args.self.now.clock c.args.self.now.changes c.arrive.new.self.engine.mixer (packet_view c.args.packet.now) (role.Arrival c.args.target) fault is) c.arrive.ensures.of_event
