use Rattle.std.proofs.Common.{inl, refl, sym}
use Rattle.pcap_file.specs.Reader.{packets_among}
use Rattle.pcap_replay.specs.Events.{events_told, file_events}
use Rattle.pcap_replay.specs.RecordChanges.{changed_by}
use Rattle.pcap_replay.specs.Routing.{plan_view}
use Rattle.pcap_replay.specs.declared.fault.ReplayFault.TheVariants.{Capture, Write}
use Rattle.pcap_replay.proofs.CaseLemmas.{some_maps, told}
use Rattle.pcap_replay.proofs.EndLemmas.{ends_behind, unopened}
use Rattle.pcap_replay.proofs.EventLemmas.{first_same}
use Rattle.pcap_replay.proofs.FewEventsLemmas.{many_octets}
use Rattle.pcap_replay.proofs.ReplayLemmas.{begins_ended, begun_replayed, replaying_none, unheard}
use Rattle.pcap_replay.proofs.player.replay_routed.Goals as goal

pub returns-in_err-window-clause-fault : goal.returns-in_err-window-clause-fault
returns-in_err-window-clause-fault g c =
    let first = g.R.Read.remaining c.args.reader.now in
    let written = g.W.Write.contents c.args.writer.now in
    let fault = c.in_err-window.field-0.0 in
    told _ (Capture fault) c.from_residual-in_err-window.result c.from_residual-in_err-window.ensures.1
    (unopened c.args.spec.now (plan_view c.args.plan.now) first written (g.L.ReplayObserver.heard c.args.observer.now c.args.observer.now) c.in_ok-run.run' fault (begun_replayed c.args.spec.now written _ _ c.in_ok-run.ensures.begun c.requires.fresh) c.in_err-window.ensures.fault)

pub close-requires-clause-can : goal.close-requires-clause-can
close-requires-clause-can g c =
    let spec = c.args.spec.now in
    let plan = plan_view c.args.plan.now in
    let first = g.R.Read.remaining c.args.reader.now in
    let written = g.W.Write.contents c.args.writer.now in
    let come = c.in-Ok.ensures.ok spec first written c.args.observer.now (replaying_none spec plan first written _ _ _ _ _ _ c.in_ok-window.ensures.returned c.in_ok-run.ensures.clock c.in_ok-run.ensures.changes (begun_replayed spec written _ _ c.in_ok-run.ensures.begun c.requires.fresh)) in
    let changed = changed_by spec plan (packets_among come.entries) in
    record {
      studio = changed;
      same = sym c.streams.ensures.value;
      events = events_told spec plan come.entries;
      written = written;
      replayed = unheard changed (events_told spec plan come.entries) written _ _ _ come.replayed;
    }

pub returns-in_err-close-in-Ok-clause-fault : goal.returns-in_err-close-in-Ok-clause-fault
returns-in_err-close-in-Ok-clause-fault g c =
    let spec = c.args.spec.now in
    let plan = plan_view c.args.plan.now in
    let first = g.R.Read.remaining c.args.reader.now in
    let written = g.W.Write.contents c.args.writer.now in
    let come = c.in-Ok.ensures.ok spec first written c.args.observer.now (replaying_none spec plan first written _ _ _ _ _ _ c.in_ok-window.ensures.returned c.in_ok-run.ensures.clock c.in_ok-run.ensures.changes (begun_replayed spec written _ _ c.in_ok-run.ensures.begun c.requires.fresh)) in
    told _ Write c.from_residual-in_err-close-in-Ok.result c.from_residual-in_err-close-in-Ok.ensures.1 (record {
      entries = come.entries;
      told = some_maps first _ _ (λ file whole. (begins_ended plan file come.entries whole, tt)) come.told;
      reason = tt;
      events = file_events spec plan come.entries;
      first = first_same (file_events spec plan come.entries);
      changed = packets_among come.entries;
      among = inl refl;
      cause = tt;
      front = c.in_err-close-in-Ok.ensures.fault (changed_by spec plan (packets_among come.entries)) (events_told spec plan come.entries) written c.args.observer.now (sym c.streams.ensures.value) come.replayed;
    })

pub returns-in-Ok-clause-ok : goal.returns-in-Ok-clause-ok
returns-in-Ok-clause-ok g c =
    let spec = c.args.spec.now in
    let plan = plan_view c.args.plan.now in
    let first = g.R.Read.remaining c.args.reader.now in
    let written = g.W.Write.contents c.args.writer.now in
    let come = c.in-Ok.ensures.ok spec first written c.args.observer.now (replaying_none spec plan first written _ _ _ _ _ _ c.in_ok-window.ensures.returned c.in_ok-run.ensures.clock c.in_ok-run.ensures.changes (begun_replayed spec written _ _ c.in_ok-run.ensures.begun c.requires.fresh)) in
    let changed = changed_by spec plan (packets_among come.entries) in
    let same = sym c.streams.ensures.value in
    record {
      entries = come.entries;
      told = come.told;
      steady = come.steady;
      writes = c.in_ok-close-in-Ok.ensures.ok changed (events_told spec plan come.entries) written c.args.observer.now same come.replayed;
      hears = c.in_ok-close-in-Ok.ensures.hears changed (events_told spec plan come.entries) written c.args.observer.now same come.replayed;
    }

pub returns-clause-fault : goal.returns-clause-fault
returns-clause-fault g c =
    let spec = c.args.spec.now in
    let plan = plan_view c.args.plan.now in
    let first = g.R.Read.remaining c.args.reader.now in
    let written = g.W.Write.contents c.args.writer.now in
    ends_behind spec plan first written _ _ _ c.go_to_close.new.self c.in-Err.fault c.break_off.result c.break_off.ensures (c.in-Err.ensures.fault spec first written c.args.observer.now
    (replaying_none spec plan first written _ _ _ _ _ _ c.in_ok-window.ensures.returned c.in_ok-run.ensures.clock c.in_ok-run.ensures.changes (begun_replayed spec written _ _ c.in_ok-run.ensures.begun c.requires.fresh)))

pub returns-clause-few : goal.returns-clause-few
returns-clause-few g c = λ is.
    many_octets c.args.spec.now (plan_view c.args.plan.now) (g.R.Read.remaining c.args.reader.now) (g.W.Write.contents c.args.writer.now) (g.W.Write.contents c.break_off.new.writer)
    (g.L.ReplayObserver.heard c.args.observer.now c.go_to_close.new.observer) c.break_off.result (returns-clause-fault g c) is
