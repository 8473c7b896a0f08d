use Rattle.worker_tests.specs.OneStream.{HasSameRings}
use Rattle.worker_tests.proofs.tests.threads.merge_all.Given as goal

abbrev pub invariant-loop : goal.invariant-loop
invariant-loop g l = HasSameRings l.initial.stream l.stream
