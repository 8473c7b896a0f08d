use Rattle.std.proofs.Common.{◌≡◌, ℤ, Err, rules, subst, to_z, of_z, w64}
use Rattle.std.proofs.lemmas.Int.{to_z-of_z}
use Rattle.live_status.specs.SnapshotLines.{WritesPart, paths_lines}
use Rattle.live_status.proofs.SnapshotLines.{paths_next, writing-broken, writing-more}
use Rattle.live_status.proofs.lines.snapshot.write_paths.Goals as goal

pub loop-place-preserved : goal.loop-place-preserved
loop-place-preserved g c =
    let time = to_z w64 (of_z w64 c.args.now) in
    record {
      empty = c.in_ok-write_path.ensures.empty;
      lines =
          writing-more _ _ _ _ _ _ _ (paths_next c.args.number c.loop-place.place c.in-Some.letter time c.args.paths.now c.index-paths-place.result c.in-Some.ensures.value c.loop-place-test.true c.index-paths-place.is)
          c.loop-place.invariant.lines c.in_ok-write_path.ensures.ok;
    }

pub returns-in_err-write_path-clause-fault : goal.returns-in_err-write_path-clause-fault
returns-in_err-write_path-clause-fault g c =
    let time = to_z w64 (of_z w64 c.args.now) in
    let is : c.from_residual.result ≡ Err c.in_err-write_path.field-0.0 = search rules in
    rw is (subst (λ (t : ℤ). WritesPart (g.W.Write.contents c.args.writer.now) (paths_lines c.args.number 0 t c.args.paths.now) (g.W.Write.contents c.write_path.new.writer)) (to_z-of_z w64 c.args.now c.ranges.now)
    (writing-broken _ _ _ _ _ _ _ (paths_next c.args.number c.loop-place.place c.in-Some.letter time c.args.paths.now c.index-paths-place.result c.in-Some.ensures.value c.loop-place-test.true c.index-paths-place.is)
    c.loop-place.invariant.lines c.in_err-write_path.ensures.fault))
