use Rattle.worker_tests.proofs.OneStreamLemmas.{mixed_more, turned}
use Rattle.worker_tests.proofs.tests.rings.play_one.Goals as goal

pub invariant_of-ends-in-Turn : goal.invariant_of-ends-in-Turn
invariant_of-ends-in-Turn g c = let e = c.args.ends.now in record { pairs = turned e.first e.second e.stream c.turn.new.stream e.mix e.pairs c.turn.ensures }

pub invariant_of-ends-in-Refuse : goal.invariant_of-ends-in-Refuse
invariant_of-ends-in-Refuse g c = let e = c.args.ends.now in record { pairs = turned e.first e.second e.stream c.fault_of.new.stream e.mix e.pairs c.fault_of.ensures }

pub invariant_of-ends-in-DrainNone : goal.invariant_of-ends-in-DrainNone
invariant_of-ends-in-DrainNone g c = let e = c.args.ends.now in record { pairs = turned e.first e.second e.stream c.drains.new.stream e.mix e.pairs c.drains.ensures }

pub invariant_of-ends-in-Close : goal.invariant_of-ends-in-Close
invariant_of-ends-in-Close g c = let e = c.args.ends.now in record { pairs = turned e.first e.second e.stream c.still_open.new.stream e.mix e.pairs c.still_open.ensures }

pub invariant_of-ends-in-Read : goal.invariant_of-ends-in-Read
invariant_of-ends-in-Read g c = let e = c.args.ends.now in record { pairs = turned e.first e.second e.stream c.reads.new.stream e.mix e.pairs c.reads.ensures }

pub invariant_of-ends-in-Mix : goal.invariant_of-ends-in-Mix
invariant_of-ends-in-Mix g c = let e = c.args.ends.now in record { pairs = mixed_more e.first e.second e.stream e.mix c.mixes.new.mix e.pairs c.mixes.ensures }
