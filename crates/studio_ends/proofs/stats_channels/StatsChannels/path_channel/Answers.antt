use Rattle.std.proofs.Common.{refl, sym, ◌∙◌}
use Rattle.std.proofs.lemmas.Bool.{false≢true}
use Rattle.studio_ends.proofs.stats_channels.StatsChannels.path_channel.Goals as goal

pub returns : goal.returns
returns c = record {
  wanted = refl;
  streams = refl;
  opened = λ on. (c.in_ok-sender.receiver, c.in_ok-push.ensures.items, c.in_ok-sender.ensures.pair);
  silent = λ off. absurd (false≢true (sym off ∙ c.if-not-self.false));
}
