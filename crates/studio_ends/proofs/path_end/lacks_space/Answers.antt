use Rattle.std.proofs.lemmas.Grind.{elements}
use Rattle.std.proofs.Common.{ap, arith}
use Rattle.rtp_stream.specs.PacketRef.{packet_of}
use Rattle.rtp_stream.specs.Reception.{reception_from}
use Rattle.studio_ends.proofs.path_end.lacks_space.Goals as goal

pub returns-in-Sent-clause-full : goal.returns-in-Sent-clause-full
returns-in-Sent-clause-full c = λ full. ((packet_of c.in-Sent.field-0, ap reception_from c.in-Sent.is), c.is_full.ensures.value.0 full)

pub returns-in-WrongType-clause-space : goal.returns-in-WrongType-clause-space
returns-in-WrongType-clause-space c = grind (arith, elements)

pub returns-in-WrongLength-clause-space : goal.returns-in-WrongLength-clause-space
returns-in-WrongLength-clause-space c = grind (arith, elements)

pub returns-in-Bad-clause-space : goal.returns-in-Bad-clause-space
returns-in-Bad-clause-space c = grind (arith, elements)

pub returns-in-Sent-clause-space : goal.returns-in-Sent-clause-space
returns-in-Sent-clause-space c = grind (arith, elements)
