use Rattle.studio_ends.proofs.TurnLemmas.{producers}
use Rattle.worker_tests.proofs.OneStreamLemmas.{self_producer}
use Rattle.worker_tests.proofs.tests.threads.send_all.Goals as goal

pub loop-number-init : goal.loop-number-init
loop-number-init g c = self_producer c.args.path.ring

pub loop-number-preserved : goal.loop-number-preserved
loop-number-preserved g c = producers c.args.path.ring c.loop-number.path.ring c.send.new.path.ring c.loop-number.invariant c.send.ensures
