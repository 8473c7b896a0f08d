use Rattle.live_io.proofs.AddressLemmas.{IsFound}
use Rattle.live_io.proofs.sockets.addresses.addresses_of.Given as goal

abbrev pub invariant-loop-number : goal.invariant-loop-number
invariant-loop-number l = IsFound l.networks l.streams l.number l.found.items
