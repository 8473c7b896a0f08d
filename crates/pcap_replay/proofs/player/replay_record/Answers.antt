use Rattle.std.proofs.Common.{◌≡◌, ◌∙◌, ap, subst, arith, to_z, of_z, w64}
use Rattle.std.proofs.lemmas.Int.{ints}
use Rattle.lane_align.specs.Lane.{natural}
use Rattle.pcap_replay.specs.declared.fault.ReplayFault.{ReplayFault}
use Rattle.pcap_replay.specs.Routing.{PlanView, Interfaces, places_of}
use Rattle.pcap_replay.specs.Replay.{BreaksOffReplay, WritesReplay}
use Rattle.pcap_replay.proofs.CaseLemmas.{err_then, ok_then}
use Rattle.pcap_replay.proofs.player.replay_record.Goals as goal

pub returns-clause-ok : goal.returns-clause-ok
returns-clause-ok g c =
    let spec = c.args.spec.now in
    let first = g.R.Read.remaining c.args.reader.now in
    let written = g.W.Write.contents c.args.writer.now in
    let then = g.W.Write.contents c.replay_routed.new.writer in
    let heard = g.L.ReplayObserver.heard c.args.observer.now c.replay_routed.new.observer in
    let small = c.open_at.type_inv in
    let bits : to_z w64 (of_z w64 c.open_at.result) ≡ c.open_at.result = omega (arith, ints, small) in
    let changes = c.args.changes in
    let longest = c.args.longest in
    let same : Interfaces c.streams.result.now c.instants_of.result changes longest ≡ places_of spec changes longest =
    ap (λ l. Interfaces l c.instants_of.result changes longest) c.streams.ensures.value ∙ ap (λ n. Interfaces spec.streams n changes longest) (c.instants_of.ensures ∙ ap natural (bits ∙ c.open_at.ensures.value)) in
    ok_then c.replay_routed.result (WritesReplay spec (Interfaces c.streams.result.now c.instants_of.result changes longest) first written then heard) (WritesReplay spec (places_of spec changes longest) first written then heard)
    (λ writes. subst (λ (plan : PlanView). WritesReplay spec plan first written then heard) same writes) c.replay_routed.ensures.ok

pub returns-clause-fault : goal.returns-clause-fault
returns-clause-fault g c =
    let spec = c.args.spec.now in
    let first = g.R.Read.remaining c.args.reader.now in
    let written = g.W.Write.contents c.args.writer.now in
    let then = g.W.Write.contents c.replay_routed.new.writer in
    let heard = g.L.ReplayObserver.heard c.args.observer.now c.replay_routed.new.observer in
    let small = c.open_at.type_inv in
    let bits : to_z w64 (of_z w64 c.open_at.result) ≡ c.open_at.result = omega (arith, ints, small) in
    let changes = c.args.changes in
    let longest = c.args.longest in
    let same : Interfaces c.streams.result.now c.instants_of.result changes longest ≡ places_of spec changes longest =
    ap (λ l. Interfaces l c.instants_of.result changes longest) c.streams.ensures.value ∙ ap (λ n. Interfaces spec.streams n changes longest) (c.instants_of.ensures ∙ ap natural (bits ∙ c.open_at.ensures.value)) in
    err_then c.replay_routed.result (λ (fault : ReplayFault). BreaksOffReplay spec (Interfaces c.streams.result.now c.instants_of.result changes longest) first written then heard fault) (λ (fault : ReplayFault). BreaksOffReplay spec (places_of spec changes longest) first written then heard fault)
    (λ fault breaks. subst (λ (plan : PlanView). BreaksOffReplay spec plan first written then heard fault) same breaks) c.replay_routed.ensures.fault

pub returns-clause-few : goal.returns-clause-few
returns-clause-few g c = c.replay_routed.ensures.few
