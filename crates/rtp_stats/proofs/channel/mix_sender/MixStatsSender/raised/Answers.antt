use Rattle.std.proofs.lemmas.Grind.{elements}
use Rattle.std.proofs.Common.{arith}
use Rattle.rtp_stats.proofs.channel.mix_sender.MixStatsSender.raised.Goals as goal

pub returns : goal.returns
returns c = grind (arith, elements)
