use Rattle.std.proofs.Common.{◌≡◌, ◌++◌, ◌∷◌, [], ◌∙◌, Err, inl, length, sym, ap, rules}
use Rattle.studio_session.specs.Event.{Closing}
use Rattle.pcap_replay.proofs.EndLemmas.{closed_session, heard_all, report_held, report_uncounted, report_unwritten, report_written, settled_datagrams}
use Rattle.pcap_replay.proofs.EventLemmas.{first_same}
use Rattle.pcap_replay.proofs.ReplayLemmas.{broke_more, streams_of_session, wrote_more}
use Rattle.pcap_replay.proofs.state.ReplayState.close.Goals as goal

pub returns-in_err-write_drained-clause-fault : goal.returns-in_err-write_drained-clause-fault
returns-in_err-write_drained-clause-fault g c =
    let is : c.from_residual.result ≡ Err c.in_err-write_drained.field-0.0 = search rules in
    rw is (λ studio events written begun same r.
    let session = closed_session studio c.args.self c.close.new.self events written _ _ r (c.in-Ok.ensures.stands studio events r.datagrams r.session) in
    inl (broke_more studio c.write_drained.new.engine (events ++ Closing ∷ []) (events ++ Closing ∷ []) written _ _ _ _ _ r.datagrams r.wrote (first_same (events ++ Closing ∷ []))
    (c.closed.ensures.heard begun events r.datagrams r.told) (c.in_err-write_drained.ensures.fault studio (events ++ Closing ∷ []) r.datagrams begun session)))

pub write_all_counts-requires-clause-all : goal.write_all_counts-requires-clause-all
write_all_counts-requires-clause-all g c =
    let q = c.requires.can in
    let r = q.replayed in
    let session = closed_session q.studio c.args.self c.close.new.self q.events q.written _ _ r (c.in-Ok.ensures.stands q.studio q.events r.datagrams r.session) in
    let gives = c.in_ok-write_drained.ensures.ok q.studio (q.events ++ Closing ∷ []) r.datagrams c.args.observer.now session in
    ap length (sym q.same) ∙ streams_of_session q.studio c.write_drained.new.engine (q.events ++ Closing ∷ []) (r.datagrams ++ gives.more) gives.stands

pub returns-in_err-write_all_counts-clause-fault : goal.returns-in_err-write_all_counts-clause-fault
returns-in_err-write_all_counts-clause-fault g c =
    let engine = c.write_drained.new.engine in
    let is : c.from_residual-in_err-write_all_counts.result ≡ Err c.in_err-write_all_counts.field-0.0 = search rules in
    rw is (λ studio events written begun same r.
    let all = events ++ Closing ∷ [] in
    let session = closed_session studio c.args.self c.close.new.self events written _ _ r (c.in-Ok.ensures.stands studio events r.datagrams r.session) in
    let gives = c.in_ok-write_drained.ensures.ok studio all r.datagrams begun session in
    let ready = settled_datagrams studio engine all (r.datagrams ++ gives.more) gives.stands (c.in_ok-write_drained.ensures.settled ∙ c.in-Ok.ensures.closed) in
    report_uncounted studio all (r.datagrams ++ gives.more) written _ _ _ _ gives.stands.runnable ready (gives.told all (c.closed.ensures.heard begun events r.datagrams r.told)) (wrote_more _ _ _ _ _ r.datagrams gives.more r.wrote gives.wrote)
    (c.in_err-write_all_counts.ensures.fault studio all (r.datagrams ++ gives.more) gives.stands same))

pub returns-in_err-finish-clause-fault : goal.returns-in_err-finish-clause-fault
returns-in_err-finish-clause-fault g c =
    let engine = c.write_drained.new.engine in
    let is : c.from_residual-in_err-finish.result ≡ Err c.in_err-finish.field-0.0 = search rules in
    rw is (λ studio events written begun same r.
    let all = events ++ Closing ∷ [] in
    let session = closed_session studio c.args.self c.close.new.self events written _ _ r (c.in-Ok.ensures.stands studio events r.datagrams r.session) in
    let gives = c.in_ok-write_drained.ensures.ok studio all r.datagrams begun session in
    let ready = settled_datagrams studio engine all (r.datagrams ++ gives.more) gives.stands (c.in_ok-write_drained.ensures.settled ∙ c.in-Ok.ensures.closed) in
    let held = report_held studio all (r.datagrams ++ gives.more) written _ _ _ _ (wrote_more _ _ _ _ _ r.datagrams gives.more r.wrote gives.wrote)
    (c.in_ok-write_all_counts.ensures.ok studio all (r.datagrams ++ gives.more) gives.stands same) in
    report_unwritten studio all (r.datagrams ++ gives.more) written _ _ c.write_all_counts.new.text _ gives.stands.runnable ready (gives.told all (c.closed.ensures.heard begun events r.datagrams r.told)) held c.in_err-finish.ensures.fault)

pub returns-clause-ok : goal.returns-clause-ok
returns-clause-ok g c = λ studio events written begun same r.
    let engine = c.write_drained.new.engine in
    let all = events ++ Closing ∷ [] in
    let session = closed_session studio c.args.self c.close.new.self events written _ _ r (c.in-Ok.ensures.stands studio events r.datagrams r.session) in
    let gives = c.in_ok-write_drained.ensures.ok studio all r.datagrams begun session in
    let ready = settled_datagrams studio engine all (r.datagrams ++ gives.more) gives.stands (c.in_ok-write_drained.ensures.settled ∙ c.in-Ok.ensures.closed) in
    let held = report_held studio all (r.datagrams ++ gives.more) written _ _ _ _ (wrote_more _ _ _ _ _ r.datagrams gives.more r.wrote gives.wrote)
    (c.in_ok-write_all_counts.ensures.ok studio all (r.datagrams ++ gives.more) gives.stands same) in
    report_written studio all (r.datagrams ++ gives.more) written _ _ c.write_all_counts.new.text ready held c.in_ok-finish.ensures.ok

pub returns-clause-hears : goal.returns-clause-hears
returns-clause-hears g c = λ studio events written begun same r.
    let all = events ++ Closing ∷ [] in
    let session = closed_session studio c.args.self c.close.new.self events written _ _ r (c.in-Ok.ensures.stands studio events r.datagrams r.session) in
    let gives = c.in_ok-write_drained.ensures.ok studio all r.datagrams begun session in
    let ready = settled_datagrams studio c.write_drained.new.engine all (r.datagrams ++ gives.more) gives.stands (c.in_ok-write_drained.ensures.settled ∙ c.in-Ok.ensures.closed) in
    heard_all studio all (r.datagrams ++ gives.more) _ gives.stands.runnable ready (gives.told all (c.closed.ensures.heard begun events r.datagrams r.told))
