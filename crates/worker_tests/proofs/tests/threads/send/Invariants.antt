use Rattle.rtrb.specs.Ring.{SameProducer}
use Rattle.worker_tests.proofs.tests.threads.send.Given as goal

abbrev pub invariant-loop : goal.invariant-loop
invariant-loop g l = SameProducer l.initial.path.ring l.path.ring
