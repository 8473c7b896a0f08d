use Rattle.std.proofs.Common.{◌≡◌, ℤ, Err, rules, subst, to_z, of_z, w64}
use Rattle.std.proofs.lemmas.Int.{to_z-of_z}
use Rattle.live_status.specs.SnapshotLines.{WritesPart, WritesSome, drift_lines, path_lines, socket_lines}
use Rattle.live_status.proofs.SnapshotLines.{held-broken, held-written, part-later, part-longer, wrote-more}
use Rattle.live_status.proofs.lines.snapshot.write_path.Goals as goal

pub returns-in_err-finish-clause-fault : goal.returns-in_err-finish-clause-fault
returns-in_err-finish-clause-fault g c =
    let time = to_z w64 (of_z w64 c.args.now) in
    let drift = drift_lines c.args.number c.args.letter time c.args.path.now in
    let socket = socket_lines c.args.number c.args.letter time c.args.path.now in
    let is : c.from_residual.result ≡ Err c.in_err-finish.field-0.0 = search rules in
    rw is (subst (λ (t : ℤ). WritesPart (g.W.Write.contents c.args.writer.now) (path_lines c.args.number c.args.letter t c.args.path.now) (g.W.Write.contents c.finish.new.writer)) (to_z-of_z w64 c.args.now c.ranges.now)
    (part-longer _ _ drift socket (held-broken _ _ drift _ c.push_drift.ensures c.in_err-finish.ensures.fault)))

pub returns-in_err-finish-2-clause-fault : goal.returns-in_err-finish-2-clause-fault
returns-in_err-finish-2-clause-fault g c =
    let time = to_z w64 (of_z w64 c.args.now) in
    let drift = drift_lines c.args.number c.args.letter time c.args.path.now in
    let socket = socket_lines c.args.number c.args.letter time c.args.path.now in
    let is : c.from_residual-in_err-finish-2.result ≡ Err c.in_err-finish-2.field-0.0 = search rules in
    rw is (subst (λ (t : ℤ). WritesPart (g.W.Write.contents c.args.writer.now) (path_lines c.args.number c.args.letter t c.args.path.now) (g.W.Write.contents c.finish-2.new.writer)) (to_z-of_z w64 c.args.now c.ranges.now)
    (part-later _ _ _ drift socket (held-written _ _ drift _ c.push_drift.ensures c.in_ok-finish.ensures.ok)
    (held-broken _ _ socket _ c.push_socket.ensures c.in_err-finish-2.ensures.fault)))

pub returns-clause-ok : goal.returns-clause-ok
returns-clause-ok g c =
    let time = to_z w64 (of_z w64 c.args.now) in
    let drift = drift_lines c.args.number c.args.letter time c.args.path.now in
    let socket = socket_lines c.args.number c.args.letter time c.args.path.now in
    subst (λ (t : ℤ). WritesSome (g.W.Write.contents c.args.writer.now) (path_lines c.args.number c.args.letter t c.args.path.now) (g.W.Write.contents c.finish-2.new.writer)) (to_z-of_z w64 c.args.now c.ranges.now)
    (wrote-more _ _ _ drift socket (held-written _ _ drift _ c.push_drift.ensures c.in_ok-finish.ensures.ok)
    (held-written _ _ socket _ c.push_socket.ensures c.in_ok-finish-2.ensures.ok))
