use Rattle.std.proofs.Common.{refl, sym, ◌∙◌}
use Rattle.std.proofs.lemmas.Bool.{false≢true}
use Rattle.studio_ends.proofs.stats_channels.StatsChannels.stream_channel.Goals as goal

pub returns : goal.returns
returns c =
    let made = c.in_ok-sender.ensures in
    record {
      wanted = refl;
      paths = refl;
      opened = λ on. (c.in_ok-sender.receiver, c.in_ok-push.ensures.items, record { pair = made.pair; none_noted = made.empty; none_known = made.known; due = made.next });
      silent = λ off. absurd (false≢true (sym off ∙ c.if-not-self.false));
    }
