use Rattle.std.proofs.Common.{arith}
use Rattle.rtp_stats.proofs.PeakLemmas.{remainder_after, remainder_round}
use Rattle.rtp_stats.proofs.peaks.channel_after.Goals as goal

pub returns-then-channel-channels : goal.returns-then-channel-channels
returns-then-channel-channels c index is = remainder_after index c.args.channels c.args.channel is c.if-channel-channels.true

pub returns-else-channel-channels : goal.returns-else-channel-channels
returns-else-channel-channels c index is = remainder_round index c.args.channels c.args.channel is (omega (arith, c.if-channel-channels.false, c.requires))
