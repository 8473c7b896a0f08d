use Rattle.live_io.proofs.PortLemmas.{IsFinding}
use Rattle.live_io.proofs.sockets.ports.path_ports.Given as goal

abbrev pub invariant-loop-number : goal.invariant-loop-number
invariant-loop-number l = IsFinding l.ports.paths l.streams l.number l.found.items
