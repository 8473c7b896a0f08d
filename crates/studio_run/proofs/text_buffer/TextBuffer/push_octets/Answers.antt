use Rattle.std.proofs.lemmas.Grind.{elements, common_steps}
use Rattle.std.proofs.Common.{arith}
use Rattle.studio_run.proofs.text_buffer.TextBuffer.push_octets.Goals as goal

pub returns-clause-length : goal.returns-clause-length
returns-clause-length c = grind (arith, elements)

pub returns-clause-text : goal.returns-clause-text
returns-clause-text c = grind (arith, common_steps)
