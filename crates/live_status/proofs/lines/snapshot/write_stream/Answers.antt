use Rattle.std.proofs.Common.{◌≡◌, ◌∷◌, ◌++◌, [], List, ℤ, Err, rules, subst, to_z, of_z, w64}
use Rattle.std.proofs.lemmas.Int.{to_z-of_z}
use Rattle.status_page.specs.declared.snapshot.PathState.{PathState}
use Rattle.live_status.specs.DriftLines.{left_line}
use Rattle.live_status.specs.SnapshotLines.{WritesPart, WritesSome, counts_line, paths_lines, stream_lines}
use Rattle.live_status.proofs.SnapshotLines.{held-broken, held-written, part-later, part-longer, wrote-more}
use Rattle.live_status.proofs.lines.snapshot.write_stream.Goals as goal

pub returns-in_err-finish-clause-fault : goal.returns-in_err-finish-clause-fault
returns-in_err-finish-clause-fault g c =
    let time = to_z w64 (of_z w64 c.args.now) in
    let counts = counts_line c.args.number time c.args.stream.now ∷ [] in
    let left = left_line c.args.number time c.args.stream.now.seconds_left ∷ [] in
    let paths = paths_lines c.args.number 0 time c.args.stream.now.paths.items in
    let is : c.from_residual.result ≡ Err c.in_err-finish.field-0.0 = search rules in
    rw is (subst (λ (t : ℤ). WritesPart (g.W.Write.contents c.args.writer.now) (stream_lines c.args.number t c.args.stream.now) (g.W.Write.contents c.finish.new.writer)) (to_z-of_z w64 c.args.now c.ranges.now)
    (part-longer _ _ (counts ++ left) paths (part-longer _ _ counts left (held-broken _ _ counts _ c.push_counts.ensures c.in_err-finish.ensures.fault))))

pub returns-in_err-finish-2-clause-fault : goal.returns-in_err-finish-2-clause-fault
returns-in_err-finish-2-clause-fault g c =
    let time = to_z w64 (of_z w64 c.args.now) in
    let counts = counts_line c.args.number time c.args.stream.now ∷ [] in
    let left = left_line c.args.number time c.args.stream.now.seconds_left ∷ [] in
    let paths = paths_lines c.args.number 0 time c.args.stream.now.paths.items in
    let is : c.from_residual-in_err-finish-2.result ≡ Err c.in_err-finish-2.field-0.0 = search rules in
    rw is (subst (λ (t : ℤ). WritesPart (g.W.Write.contents c.args.writer.now) (stream_lines c.args.number t c.args.stream.now) (g.W.Write.contents c.finish-2.new.writer)) (to_z-of_z w64 c.args.now c.ranges.now)
    (part-longer _ _ (counts ++ left) paths (part-later _ _ _ counts left (held-written _ _ counts _ c.push_counts.ensures c.in_ok-finish.ensures.ok)
    (held-broken _ _ left _ c.push_left.ensures c.in_err-finish-2.ensures.fault))))

pub returns-in_err-write_paths-clause-fault : goal.returns-in_err-write_paths-clause-fault
returns-in_err-write_paths-clause-fault g c =
    let time = to_z w64 (of_z w64 c.args.now) in
    let counts = counts_line c.args.number time c.args.stream.now ∷ [] in
    let left = left_line c.args.number time c.args.stream.now.seconds_left ∷ [] in
    let paths = paths_lines c.args.number 0 time c.args.stream.now.paths.items in
    let is : c.from_residual-in_err-write_paths.result ≡ Err c.in_err-write_paths.field-0.0 = search rules in
    let broke = subst (λ (l : List PathState). WritesPart (g.W.Write.contents c.finish-2.new.writer) (paths_lines c.args.number 0 time l) (g.W.Write.contents c.write_paths.new.writer)) c.as_slice.ensures.value c.in_err-write_paths.ensures.fault in
    rw is (subst (λ (t : ℤ). WritesPart (g.W.Write.contents c.args.writer.now) (stream_lines c.args.number t c.args.stream.now) (g.W.Write.contents c.write_paths.new.writer)) (to_z-of_z w64 c.args.now c.ranges.now)
    (part-later _ _ _ (counts ++ left) paths (wrote-more _ _ _ counts left (held-written _ _ counts _ c.push_counts.ensures c.in_ok-finish.ensures.ok)
    (held-written _ _ left _ c.push_left.ensures c.in_ok-finish-2.ensures.ok)) broke))

pub returns-clause-ok : goal.returns-clause-ok
returns-clause-ok g c =
    let time = to_z w64 (of_z w64 c.args.now) in
    let counts = counts_line c.args.number time c.args.stream.now ∷ [] in
    let left = left_line c.args.number time c.args.stream.now.seconds_left ∷ [] in
    let paths = paths_lines c.args.number 0 time c.args.stream.now.paths.items in
    let wrote = subst (λ (l : List PathState). WritesSome (g.W.Write.contents c.finish-2.new.writer) (paths_lines c.args.number 0 time l) (g.W.Write.contents c.write_paths.new.writer)) c.as_slice.ensures.value c.in_ok-write_paths.ensures.ok in
    subst (λ (t : ℤ). WritesSome (g.W.Write.contents c.args.writer.now) (stream_lines c.args.number t c.args.stream.now) (g.W.Write.contents c.write_paths.new.writer)) (to_z-of_z w64 c.args.now c.ranges.now)
    (wrote-more _ _ _ (counts ++ left) paths (wrote-more _ _ _ counts left (held-written _ _ counts _ c.push_counts.ensures c.in_ok-finish.ensures.ok)
    (held-written _ _ left _ c.push_left.ensures c.in_ok-finish-2.ensures.ok)) wrote)
