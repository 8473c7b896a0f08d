use Rattle.std.proofs.Common.{◌≡◌, ◌∙◌, ℕ, List, Err, refl, sym, ap, subst, rules}
use Rattle.pcap_file.specs.Packet.{packet_view}
use Rattle.pcap_file.specs.RecordedChange.{change_of}
use Rattle.pcap_flows.specs.Clock.{clock_with}
use Rattle.studio_mix.specs.Changed.{with_changes}
use Rattle.pcap_replay.specs.Events.{read_at}
use Rattle.pcap_replay.specs.RecordChanges.{changes_by}
use Rattle.pcap_replay.specs.Replay.{HasReplayed}
use Rattle.pcap_replay.specs.declared.state.ReplayState.{ReplayState}
use Rattle.pcap_replay.proofs.CaseLemmas.{err_then, ok_then, own_fault}
use Rattle.pcap_flows.specs.Trace.{octets_of}
use Rattle.pcap_replay.specs.Causes.{IsChangeFault, count_on}
use Rattle.pcap_replay.specs.declared.routing.PacketRole.TheVariants as role
use Rattle.pcap_replay.proofs.CauseLemmas.{change_packet, reading_packet}
use Rattle.pcap_replay.proofs.EventLemmas.{first_same}
use Rattle.pcap_replay.proofs.ReasonLemmas.{change_reason, change_run}
use Rattle.pcap_replay.proofs.ReplayLemmas.{gains_replayed, own_run, stops_at_run}
use Rattle.pcap_replay.proofs.state.ReplayState.take_change.Goals as goal

pub returns-in_err-read-clause-fault : goal.returns-in_err-read-clause-fault
returns-in_err-read-clause-fault g c =
    let is : c.from_residual.result ≡ Err c.in_err-read.field-0.0 = search rules in
    rw is (λ studio events written begun r. c.in_err-read.ensures.fault studio events written begun r)

pub returns-clause-ok : goal.returns-clause-ok
returns-clause-ok g c =
    let packet = packet_view c.args.packet.now in
    let clock = c.args.self.now.clock in
    let last = g.W.Write.contents c.read.new.writer in
    ok_then c.change.result _ _ (λ changes studio events written begun r.
    let before = read_at studio.open_at c.args.rule.from events clock.reading (clock_with clock packet.time).reading in
    let heard = g.L.ReplayObserver.heard begun c.read.new.observer in
    let now = c.in_ok-read.ensures.ok studio events written begun r in
    subst (λ l. HasReplayed (with_changes studio (changes_by c.args.rule.from (change_of l))) before written c.change.new.self last heard) c.datagram_octets.ensures
    (gains_replayed studio _ before written last heard c.read.new.self c.change.new.self c.change.ensures.text c.change.ensures.turning c.change.ensures.count refl now (changes studio before now.datagrams now.session))) c.change.ensures.ok

pub returns-clause-kind : goal.returns-clause-kind
returns-clause-kind g c = own_run c.change.result (err_then c.change.result _ _ change_run c.change.ensures.kind)

pub returns-clause-fault : goal.returns-clause-fault
returns-clause-fault g c =
    let packet = packet_view c.args.packet.now in
    let clock = c.args.self.now.clock in
    let last = g.W.Write.contents c.read.new.writer in
    own_fault c.change.result _ (λ fault kind studio events written begun r.
    let before = read_at studio.open_at c.args.rule.from events clock.reading (clock_with clock packet.time).reading in
    let heard = g.L.ReplayObserver.heard begun c.read.new.observer in
    let now = c.in_ok-read.ensures.ok studio events written begun r in
    record {
      events = before;
      first = first_same before;
      at = stops_at_run studio before written last heard c.change.new.self fault (change_run fault kind.0)
          (subst (λ (run : ReplayState). HasReplayed studio before written run last heard) (sym kind.1) now);
      reason = change_reason studio before fault kind.0;
    }) c.change.ensures.kind c.change.ensures.kept

pub returns-in_err-read-clause-cause : goal.returns-in_err-read-clause-cause
returns-in_err-read-clause-cause g c =
    let fault = c.in_err-read.field-0.0 in
    let is : c.from_residual.result ≡ Err fault = search rules in
    let clock = c.args.self.now.clock in
    rw is (reading_packet c.args.rule clock c.args.self.now.changes c.read.new.self.engine.mixer (packet_view c.args.packet.now) role.Change (clock_with clock c.args.packet.now.time) fault refl c.in_err-read.ensures.jump)

pub returns-clause-cause : goal.returns-clause-cause
returns-clause-cause g c =
    let packet = packet_view c.args.packet.now in
    let from = c.args.rule.from in
    let octets = octets_of packet.ip.body in
    let count = c.args.self.now.changes in
    let read = c.read.new.self in
    own_fault c.change.result _ (λ fault both.
    change_packet c.args.rule c.args.self.now.clock count c.change.new.self.engine.mixer packet fault
    (subst (λ (run : ReplayState). IsChangeFault count run.engine.mixer from octets fault) (sym both.1)
    (subst (λ (n : ℕ). IsChangeFault n read.engine.mixer from octets fault) c.read.ensures.changes
    (subst (λ (l : List ℕ). IsChangeFault read.changes read.engine.mixer from l fault) c.datagram_octets.ensures both.0)))) c.change.ensures.fault c.change.ensures.kept

pub returns-clause-changes : goal.returns-clause-changes
returns-clause-changes g c =
    let from = c.args.rule.from in
    ok_then c.change.result _ _ (λ is.
    is ∙ ap (λ n. count_on n (changes_by from (change_of c.datagram_octets.result.now))) c.read.ensures.changes
    ∙ ap (λ l. count_on c.args.self.now.changes (changes_by from (change_of l))) c.datagram_octets.ensures) c.change.ensures.changes
