use Rattle.std.proofs.lemmas.Grind.{elements}
use Rattle.std.proofs.Common.{arith}
use Rattle.pcap_file.proofs.reader.buffer.ReadBuffer.make_space.Goals as goal

pub returns-clause-alone : goal.returns-clause-alone
returns-clause-alone c = grind (arith, elements)

pub returns-clause-same : goal.returns-clause-same
returns-clause-same c = grind (arith, elements)
