use Rattle.std.proofs.Common.{take, arith, subst, length-drop}
use Rattle.std.specs.Io.KnownBytes.{Appends}
use Rattle.std.proofs.KnownBytes.{Appends-trans}
use Rattle.std.proofs.Math.Seq.{take-add}
use Rattle.std.proofs.lemmas.List.{take_rest}
use Rattle.studio_run.proofs.text_io.write_text.Goals as goal

pub loop-done-preserved : goal.loop-done-preserved
loop-done-preserved g c =
    let text = c.args.text.now in
    let rest = take_rest text c.loop-done.done in
    let wrote = subst (λ bs. Appends (g.W.Write.contents c.loop-done.writer) (g.W.Write.contents c.write.new.self) (take c.in-Ok.count bs)) rest c.in-Ok.ensures.bytes in
    record {
      fits = omega (arith, length-drop c.loop-done.done text, rw rest at c.in-Ok.ensures.bound);
      written = rw (take-add c.loop-done.done c.in-Ok.count text) (Appends-trans _ _ _ _ _ c.loop-done.invariant.written wrote);
    }
