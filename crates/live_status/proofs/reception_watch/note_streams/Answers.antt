use Rattle.std.proofs.lemmas.Grind.{elements}
use Rattle.std.proofs.Common.{◌<◌, ℤ, length, sym, refl, subst, ◌∙◌, to_z, of_z, w64, arith}
use Rattle.std.proofs.lemmas.Int.{to_z-of_z}
use Rattle.std.proofs.lemmas.Option.{slice_get_read}
use Rattle.live_status.specs.declared.reception_watch.stream_watch.StreamWatch.{StreamWatch}
use Rattle.live_status.specs.StreamWatch.{NotesStreamAt}
use Rattle.live_status.specs.Each.{AreEach}
use Rattle.live_status.proofs.Each.{upto-all, upto-set}
use Rattle.live_status.proofs.reception_watch.note_streams.Goals as goal

pub loop-number-preserved : goal.loop-number-preserved
loop-number-preserved c =
    let now = to_z w64 (of_z w64 c.args.now) in
    let P = NotesStreamAt now c.args.streams.now in
    let n = c.loop-number.number in
    let one = c.index-watches-number.result in
    let items = c.loop-number.watches in
    let upto = c.loop-number.invariant in
    let same = upto.length_is in
    let within : n < length items = (let below = c.loop-number-test.true in omega (arith, below, same)) in
    let there = slice_get_read items (length items) n one refl within c.index-watches-number.is in
    let at = sym (upto.left n (omega arith)) ∙ there in
    let this : P n one c.note_stream_at.new.watch = subst (λ (s : StreamWatch). P n s c.note_stream_at.new.watch) (sym c.index-watches-number.is) c.note_stream_at.ensures in
    upto-set P n c.args.watches.now items one c.note_stream_at.new.watch upto within at this

pub returns : goal.returns
returns c =
    subst (λ (now : ℤ). AreEach (NotesStreamAt now c.args.streams.now) c.args.watches.now c.loop-number.watches) (to_z-of_z w64 c.args.now c.ranges.now)
    (upto-all (NotesStreamAt (to_z w64 (of_z w64 c.args.now)) c.args.streams.now) c.loop-number.number c.args.watches.now c.loop-number.watches c.loop-number-test.false c.loop-number.invariant)

pub loop-number-init : goal.loop-number-init
loop-number-init c = grind (arith, elements)
