use Rattle.std.proofs.lemmas.Grind.{elements}
use Rattle.std.proofs.Common.{arith}
use Rattle.wav_file.proofs.header.push_ds64_or_junk.Goals as goal

pub returns-else-is_long-clause-items : goal.returns-else-is_long-clause-items
returns-else-is_long-clause-items c = grind (arith, elements)
