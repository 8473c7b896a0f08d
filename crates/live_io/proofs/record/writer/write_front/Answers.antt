use Rattle.std.proofs.Common.{take, sym, arith, subst, length-drop}
use Rattle.std.specs.Io.KnownBytes.{Appends}
use Rattle.std.proofs.KnownBytes.{Appends-trans}
use Rattle.std.proofs.Math.Seq.{take-add}
use Rattle.std.proofs.lemmas.List.{take_rest}
use Rattle.live_io.proofs.WrittenLemmas.{appends_kept}
use Rattle.live_io.proofs.record.writer.write_front.Goals.{in-Ok, in-Err}
use Rattle.live_io.proofs.record.writer.write_front.Goals as goal

pub writes-preserved : goal.writes-preserved
writes-preserved g c =
    let octets = c.args.octets.now in
    let done = c.writes.done in
    let rest = take_rest octets done in
    let first = g.W.Write.contents c.args.file.now in
    let now = g.W.Write.contents c.write.new.self in
    elim c.match-write.branch [
      | in-Ok w ↦
          let wrote = subst (λ bs. Appends (g.W.Write.contents c.writes.file) now (take w.in-Ok.count bs)) rest w.in-Ok.ensures.bytes in
          record {
            fits = omega (arith, w.done-is, length-drop done octets, rw rest at w.in-Ok.ensures.bound);
            written = subst (λ n. Appends first now (take n octets)) (sym w.done-is)
                (rw (take-add done w.in-Ok.count octets) (Appends-trans _ _ _ _ _ c.writes.invariant.written wrote));
          }
      | in-Err w ↦ record {
        fits = omega (arith, w.done-is, c.writes.invariant.fits);
        written = subst (λ n. Appends first now (take n octets)) (sym w.done-is) (appends_kept _ _ _ _ c.writes.invariant.written w.in-Err.ensures.bytes);
      }
    ]
