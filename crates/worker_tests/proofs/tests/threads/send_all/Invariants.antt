use Rattle.rtrb.specs.Ring.{SameProducer}
use Rattle.worker_tests.proofs.tests.threads.send_all.Given as goal

abbrev pub invariant-loop-number : goal.invariant-loop-number
invariant-loop-number g l = SameProducer l.initial.path.ring l.path.ring
