use Rattle.std.proofs.Common.{◌≡◌, ◌++◌, Err, sym, subst, rules}
use Rattle.pcap_file.specs.ReadBuffer.{octets_of}
use Rattle.pcap_file.specs.Reader.{packets_among, part_entries}
use Rattle.pcap_replay.specs.Routing.{plan_view}
use Rattle.pcap_replay.proofs.CaseLemmas.{some_maps}
use Rattle.pcap_replay.proofs.ReplayLemmas.{begins, is_at, packet_reason, replaying_more, stops_among, stops_behind}
use Rattle.pcap_replay.specs.Replay.{IsAt}
use Rattle.pcap_replay.proofs.state.ReplayState.take_next.Goals as goal

pub returns-in_ok-take_part-in-Ok-clause-ok : goal.returns-in_ok-take_part-in-Ok-clause-ok
returns-in_ok-take_part-in-Ok-clause-ok g c = λ studio first written begun left closing close_place r.
    replaying_more studio (plan_view c.args.plan.now) first written _ _ _ _ left _ _ closing close_place c.args.parts.now.place r.entries c.in-Ok.part
    (some_maps first _ _ (λ file told. c.in-Ok.ensures.returned file r.entries left told) r.told)
    (c.in_ok-take_part-in-Ok.ensures.ok studio (packets_among r.entries) written begun r.taken) r.closes
    (some_maps first _ _ (λ file told. is_at file r.entries left _ _ _ told) r.told) r.placed

pub returns-in_err-take_part-in-Ok-clause-fault : goal.returns-in_err-take_part-in-Ok-clause-fault
returns-in_err-take_part-in-Ok-clause-fault g c =
    let fault = c.in_err-take_part-in-Ok.field-0.0 in
    let is : c.from_residual.result ≡ Err fault = search rules in
    rw is (λ studio first written begun left closing close_place r.
    stops_among studio (plan_view c.args.plan.now) first written _ _ _ fault r.entries c.in-Ok.part _ _ _ r.taken.clock r.taken.changes c.in_err-take_part-in-Ok.ensures.cause
    (some_maps first _ _ (λ file told. (
      begins file (r.entries ++ part_entries c.in-Ok.part) left _ _ _ (c.in-Ok.ensures.returned file r.entries left told),
      packet_reason file r.entries c.in-Ok.part (plan_view c.args.plan.now) _ _ _ _ fault c.in_err-take_part-in-Ok.ensures.cause c.in_err-take_part-in-Ok.ensures.kind
          (subst (IsAt file r.entries) (sym c.place-place.ensures) (is_at file r.entries left _ _ _ told)),
    )) r.told)
    (c.in_err-take_part-in-Ok.ensures.fault studio (packets_among r.entries) written begun r.taken))

pub returns-in-Err-clause-fault : goal.returns-in-Err-clause-fault
returns-in-Err-clause-fault g c = λ studio first written begun left closing close_place r.
    stops_behind studio (plan_view c.args.plan.now) first written c.args.self.now _ (octets_of c.args.window.now) c.args.window.now.ended left (g.W.Write.contents c.args.writer.now) (g.L.ReplayObserver.heard begun c.args.observer.now) closing close_place _ r
    (λ file told. let behind = c.in-Err.ensures.fault file r.entries left told in behind.packets) (λ changed events. tt) (λ changed events replayed. replayed) tt
