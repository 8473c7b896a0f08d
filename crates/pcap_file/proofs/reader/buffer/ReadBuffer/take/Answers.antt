use Rattle.std.proofs.lemmas.Grind.{common_steps}
use Rattle.std.proofs.Common.{arith}
use Rattle.pcap_file.proofs.reader.buffer.ReadBuffer.take.Goals as goal

pub returns : goal.returns
returns c = grind (arith, common_steps)
