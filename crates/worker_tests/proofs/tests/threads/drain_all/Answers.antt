use Rattle.std.proofs.Common.{refl}
use Rattle.worker_tests.proofs.OneStreamLemmas.{same_end, same_ends}
use Rattle.worker_tests.proofs.tests.threads.drain_all.Goals as goal

pub loop-init : goal.loop-init
loop-init g c = same_end c.args.stream c.args.stream refl

pub loop-preserved : goal.loop-preserved
loop-preserved g c = same_ends c.args.stream c.loop.stream c.drains.new.stream c.loop.invariant c.drains.ensures

pub returns-then-drains : goal.returns-then-drains
returns-then-drains g c = same_ends c.args.stream c.loop.stream c.drains.new.stream c.loop.invariant c.drains.ensures
