use Rattle.studio_ends.proofs.TurnLemmas.{producers}
use Rattle.worker_tests.proofs.OneStreamLemmas.{self_producer}
use Rattle.worker_tests.proofs.tests.threads.send.Goals as goal

pub loop-init : goal.loop-init
loop-init g c = self_producer c.args.path.now.ring

pub loop-preserved : goal.loop-preserved
loop-preserved g c = producers c.args.path.now.ring c.loop.path.ring c.offer-answer.new.self.ring c.loop.invariant c.offer-answer.ensures.ring
