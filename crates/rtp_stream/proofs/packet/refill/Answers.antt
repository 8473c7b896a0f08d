use Rattle.std.proofs.lemmas.Grind.{elements}
use Rattle.std.proofs.Common.{arith}
use Rattle.rtp_stream.proofs.packet.refill.Goals as goal

pub returns-then-len-octets : goal.returns-then-len-octets
returns-then-len-octets c = grind (arith, elements)
