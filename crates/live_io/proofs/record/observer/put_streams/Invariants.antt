use Rattle.live_io.proofs.PutLemmas.{Describes}
use Rattle.live_io.proofs.record.observer.put_streams.Given as goal

abbrev pub invariant-loop-number : goal.invariant-loop-number
invariant-loop-number l = Describes l.streams l.number l.fn.blocks l.blocks
