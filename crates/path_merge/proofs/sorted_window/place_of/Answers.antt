use Rattle.std.proofs.Common.{◌<◌, get_or, ap, arith}
use Rattle.std.proofs.lemmas.List.{take_more}
use Rattle.path_merge.proofs.SortedLemmas.{AllBelow-push}
use Rattle.path_merge.proofs.sorted_window.place_of.Goals as goal

-- the number passed is smaller
pub loop-i-preserved : goal.loop-i-preserved
loop-i-preserved c =
    let e = get_or c.args.packets.now c.loop-i.i c.index-packets-i.result in
    let less : e.0 < c.args.number = grind (arith, ap (λ x. x.0) c.index-packets-i.is) in
    rw (take_more c.args.packets.now c.loop-i.i c.index-packets-i.result c.loop-i-test.true) (AllBelow-push c.args.number e.0 e.1 _ c.loop-i.invariant less)
