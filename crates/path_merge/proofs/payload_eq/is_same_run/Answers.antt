use Rattle.std.proofs.Common.{◌+◌, arith, sym}
use Rattle.path_merge.proofs.OctetLemmas.{same_more}
use Rattle.path_merge.proofs.payload_eq.is_same_run.Goals as goal

pub loop-i-preserved : goal.loop-i-preserved
loop-i-preserved c =
    rw c.loop-i.invariant (sym (same_more (c.args.from + c.loop-i.i) (c.args.from + (c.loop-i.i + 1)) c.args.a.now c.args.b.now (omega arith) (omega (arith, c.requires.space, c.loop-i-test.true)) (omega (arith, c.requires.other_room, c.loop-i-test.true))))
