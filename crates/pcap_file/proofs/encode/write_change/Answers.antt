use Rattle.std.proofs.lemmas.Grind.{common_steps}
use Rattle.std.proofs.Common.{arith}
use Rattle.pcap_file.proofs.encode.write_change.Goals as goal

pub returns-clause-short : goal.returns-clause-short
returns-clause-short c = grind (arith, common_steps)
