use Rattle.std.proofs.Common.{◌≡◌, ◌∷◌, [], List, ℤ, Err, rules, subst, to_z, of_z, w64}
use Rattle.std.proofs.lemmas.Int.{to_z-of_z}
use Rattle.status_page.specs.declared.snapshot.StreamState.{StreamState}
use Rattle.live_status.specs.Lines.{run_line}
use Rattle.live_status.specs.SnapshotLines.{WritesPart, WritesSome, mix_counts_in, snapshot_lines, streams_lines}
use Rattle.live_status.proofs.SnapshotLines.{held-broken, held-written, part-later, part-longer, wrote-more}
use Rattle.live_status.proofs.lines.snapshot.write_snapshot.Goals as goal

pub returns-in_err-write_streams-clause-fault : goal.returns-in_err-write_streams-clause-fault
returns-in_err-write_streams-clause-fault g c =
    let time = to_z w64 (of_z w64 c.args.now) in
    let snapshot = c.args.snapshot.now in
    let streams = streams_lines 0 time snapshot.streams.items in
    let run = run_line time (mix_counts_in snapshot) snapshot.run_outputs ∷ [] in
    let is : c.from_residual.result ≡ Err c.in_err-write_streams.field-0.0 = search rules in
    let broke = subst (λ (l : List StreamState). WritesPart (g.W.Write.contents c.args.writer.now) (streams_lines 0 time l) (g.W.Write.contents c.write_streams.new.writer)) c.as_slice.ensures.value c.in_err-write_streams.ensures.fault in
    rw is (subst (λ (t : ℤ). WritesPart (g.W.Write.contents c.args.writer.now) (snapshot_lines t c.args.snapshot.now) (g.W.Write.contents c.write_streams.new.writer)) (to_z-of_z w64 c.args.now c.ranges.now)
    (part-longer _ _ streams run broke))

pub returns-in_err-finish-clause-fault : goal.returns-in_err-finish-clause-fault
returns-in_err-finish-clause-fault g c =
    let time = to_z w64 (of_z w64 c.args.now) in
    let snapshot = c.args.snapshot.now in
    let streams = streams_lines 0 time snapshot.streams.items in
    let run = run_line time (mix_counts_in snapshot) snapshot.run_outputs ∷ [] in
    let is : c.from_residual-in_err-finish.result ≡ Err c.in_err-finish.field-0.0 = search rules in
    let wrote = subst (λ (l : List StreamState). WritesSome (g.W.Write.contents c.args.writer.now) (streams_lines 0 time l) (g.W.Write.contents c.write_streams.new.writer)) c.as_slice.ensures.value c.in_ok-write_streams.ensures.ok in
    rw is (subst (λ (t : ℤ). WritesPart (g.W.Write.contents c.args.writer.now) (snapshot_lines t c.args.snapshot.now) (g.W.Write.contents c.finish.new.writer)) (to_z-of_z w64 c.args.now c.ranges.now)
    (part-later _ _ _ streams run wrote (held-broken _ _ run _ c.push_run.ensures c.in_err-finish.ensures.fault)))

pub returns-clause-ok : goal.returns-clause-ok
returns-clause-ok g c =
    let time = to_z w64 (of_z w64 c.args.now) in
    let snapshot = c.args.snapshot.now in
    let streams = streams_lines 0 time snapshot.streams.items in
    let run = run_line time (mix_counts_in snapshot) snapshot.run_outputs ∷ [] in
    let wrote = subst (λ (l : List StreamState). WritesSome (g.W.Write.contents c.args.writer.now) (streams_lines 0 time l) (g.W.Write.contents c.write_streams.new.writer)) c.as_slice.ensures.value c.in_ok-write_streams.ensures.ok in
    subst (λ (t : ℤ). WritesSome (g.W.Write.contents c.args.writer.now) (snapshot_lines t c.args.snapshot.now) (g.W.Write.contents c.finish.new.writer)) (to_z-of_z w64 c.args.now c.ranges.now)
    (wrote-more _ _ _ streams run wrote (held-written _ _ run _ c.push_run.ensures c.in_ok-finish.ensures.ok))
