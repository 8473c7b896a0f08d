use Rattle.std.proofs.Common.{◌+◌, ℤ, List, length, sym, refl, subst, to_z, of_z, w64, arith}
use Rattle.std.proofs.lemmas.Int.{to_z-of_z}
use Rattle.std.proofs.lemmas.Option.{slice_get_read}
use Rattle.live_status.specs.StreamWatch.{IsNewWatchAt}
use Rattle.live_status.specs.declared.reception_watch.stream_watch.StreamWatch.{StreamWatch}
use Rattle.live_status.specs.Each.{AreEach}
use Rattle.live_status.proofs.Each.{IsBegun, begun-all, begun-push}
use Rattle.live_status.proofs.reception_watch.watches_of.Goals as goal

pub loop-stream-preserved : goal.loop-stream-preserved
loop-stream-preserved c =
    let now = to_z w64 (of_z w64 c.args.now) in
    let n = c.loop-stream.stream-index in
    let streams = c.args.streams.now in
    let stream = c.stream-item.result in
    let at = slice_get_read streams (length streams) n stream refl c.loop-stream-test.true c.stream-item.is in
    subst (λ (items : List StreamWatch). IsBegun (IsNewWatchAt now) (n + 1) streams items) (sym {A = List StreamWatch} c.in_ok-push.ensures.items) (begun-push (IsNewWatchAt now) n streams c.loop-stream.watches.items stream c.new.result c.loop-stream.invariant at c.new.ensures)

pub returns : goal.returns
returns c =
    subst (λ (now : ℤ). AreEach (IsNewWatchAt now) c.args.streams.now c.loop-stream.watches.items) (to_z-of_z w64 c.args.now c.ranges.now)
    (begun-all (IsNewWatchAt (to_z w64 (of_z w64 c.args.now))) c.loop-stream.stream-index c.args.streams.now c.loop-stream.watches.items (omega arith) c.loop-stream.invariant)
