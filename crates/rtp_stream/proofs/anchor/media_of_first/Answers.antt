use Rattle.std.proofs.lemmas.Grind.{common_steps}
use Rattle.std.proofs.Common.{arith}
use Rattle.rtp_stream.proofs.anchor.media_of_first.Goals as goal

pub returns-in-Media : goal.returns-in-Media
returns-in-Media c = grind (arith, common_steps)
