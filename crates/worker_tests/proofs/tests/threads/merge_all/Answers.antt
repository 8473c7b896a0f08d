use Rattle.std.proofs.Common.{refl}
use Rattle.worker_tests.proofs.OneStreamLemmas.{same_end, same_ends}
use Rattle.worker_tests.proofs.tests.threads.merge_all.Goals as goal

pub loop-init : goal.loop-init
loop-init g c = same_end c.args.stream c.args.stream refl

pub loop-preserved : goal.loop-preserved
loop-preserved g c = same_ends c.args.stream c.loop.stream c.turn-of_first.new.stream c.loop.invariant c.turn-of_first.ensures

pub returns-then-reached-last : goal.returns-then-reached-last
returns-then-reached-last g c = same_ends c.args.stream c.loop.stream c.turn-of_first.new.stream c.loop.invariant c.turn-of_first.ensures
