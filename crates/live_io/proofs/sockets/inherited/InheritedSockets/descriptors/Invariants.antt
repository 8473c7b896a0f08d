use Rattle.live_io.proofs.DescriptorLemmas.{IsFound}
use Rattle.live_io.proofs.sockets.inherited.InheritedSockets.descriptors.Given as goal

abbrev pub invariant-loop-number : goal.invariant-loop-number
invariant-loop-number l = IsFound l.self.paths l.streams l.number l.found.items
