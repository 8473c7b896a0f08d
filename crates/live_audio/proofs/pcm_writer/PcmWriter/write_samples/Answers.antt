use Rattle.std.proofs.Common.{take, arith, subst, length-drop}
use Rattle.std.specs.Io.KnownBytes.{Appends}
use Rattle.std.proofs.KnownBytes.{Appends-trans}
use Rattle.std.proofs.Math.Seq.{take-add}
use Rattle.std.proofs.lemmas.List.{take_rest}
use Rattle.live_audio.proofs.PcmLemmas.{same_twice}
use Rattle.live_audio.proofs.pcm_writer.PcmWriter.write_samples.Goals as goal

pub writes-preserved : goal.writes-preserved
writes-preserved g c =
    let text = c.args.octets.now in
    let rest = take_rest text c.writes.count in
    let wrote = subst (λ bs. Appends (g.D.Write.contents c.writes.output) (g.D.Write.contents c.write_ready.new.output) (take c.in-Ok.written bs)) rest c.in-Ok.ensures.written.1 in
    let bound = rw rest at c.in-Ok.ensures.written.0 in
    record {
      same = same_twice _ _ _ c.writes.invariant.same c.write_ready.ensures.same;
      few = omega (arith, length-drop c.writes.count text, bound);
      written = rw (take-add c.writes.count c.in-Ok.written text) (Appends-trans _ _ _ _ _ c.writes.invariant.written wrote);
    }
