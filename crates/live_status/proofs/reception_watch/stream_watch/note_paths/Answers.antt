use Rattle.std.proofs.lemmas.Grind.{elements}
use Rattle.std.proofs.Common.{ℤ, subst, to_z, of_z, w64, arith}
use Rattle.std.proofs.lemmas.Int.{to_z-of_z}
use Rattle.live_status.specs.Each.{AreEach}
use Rattle.live_status.specs.Watch.{NotesPath}
use Rattle.live_status.proofs.Each.{upto-all}
use Rattle.live_status.proofs.reception_watch.stream_watch.note_paths.Goals as goal

pub returns : goal.returns
returns c =
    subst (λ (now : ℤ). AreEach (NotesPath now c.args.window_span c.args.begins c.args.paths.now) c.args.watches.now c.loop-place.watches) (to_z-of_z w64 c.args.now c.ranges.now)
    (upto-all (NotesPath (to_z w64 (of_z w64 c.args.now)) c.args.window_span c.args.begins c.args.paths.now) c.loop-place.place c.args.watches.now c.loop-place.watches c.loop-place-test.false c.loop-place.invariant)

pub loop-place-init : goal.loop-place-init
loop-place-init c = grind (arith, elements)

pub loop-place-preserved : goal.loop-place-preserved
loop-place-preserved c = grind (arith, elements)
