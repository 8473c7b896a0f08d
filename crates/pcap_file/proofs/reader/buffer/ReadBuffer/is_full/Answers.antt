use Rattle.std.proofs.lemmas.Grind.{elements}
use Rattle.std.proofs.Common.{arith}
use Rattle.pcap_file.proofs.reader.buffer.ReadBuffer.is_full.Goals as goal

pub returns-clause-full : goal.returns-clause-full
returns-clause-full c = grind (arith, elements)

pub returns-clause-space : goal.returns-clause-space
returns-clause-space c = grind (arith, elements)
