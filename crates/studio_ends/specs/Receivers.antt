-- The channels that report the statistics of a studio's ends, as they are opened.
use Rattle.std.specs.Prelude.{◌≡◌, List, [], ℤ, pos, neg_ℤ, ◌≤ℤ◌, ◌^◌, Option, Some, None}
use Rattle.std.specs.List.{All, AllZip}
use Rattle.rtp_stats.specs.Channel.{IsFreshPair}
use Rattle.rtp_stats.specs.Channels.{no_peaks}
use Rattle.rtp_stats.specs.Tally.{HasTally}
use Rattle.rtp_stats.specs.declared.channel.mix.MixStatsReceiver.{MixStatsReceiver}
use Rattle.rtp_stats.specs.declared.channel.mix_sender.MixStatsSender.{MixStatsSender}
use Rattle.rtp_stats.specs.declared.channel.path.PathCountsReceiver.{PathCountsReceiver}
use Rattle.rtp_stats.specs.declared.channel.path.PathCountsSender.{PathCountsSender}
use Rattle.rtp_stats.specs.declared.channel.stream.StreamStatsReceiver.{StreamStatsReceiver}
use Rattle.rtp_stats.specs.declared.channel.stream.StreamStatsSender.{StreamStatsSender}
use Rattle.rtp_stream.specs.declared.stream_spec.Stream.{Stream}
use Rattle.studio_ends.specs.declared.ends.Ends.{Ends}
use Rattle.studio_ends.specs.declared.path_end.PathEnd.{PathEnd}
use Rattle.studio_ends.specs.declared.stats_channels.StatsReceivers.{StatsReceivers}
use Rattle.studio_ends.specs.declared.stream_end.StreamEnd.{StreamEnd}

-- there is a sender, and the receiver is the other end of its channel, with nothing sent
abbrev pub IsPathChannel : Option PathCountsSender → PathCountsReceiver → Type 0
IsPathChannel None receiver = ⊥
IsPathChannel (Some sender) receiver = IsFreshPair 1 sender.ring receiver.ring

-- both ends of the channel of a stream, with no packet noted and nothing sent: the first send is due at any clock
-- reading
pub record AreStreamEnds (stream : Stream) (sender : StreamStatsSender) (receiver : StreamStatsReceiver) : Type 0 where
  pub pair : IsFreshPair 4 sender.ring receiver.ring
  pub none_noted : HasTally stream [] sender.tracker.tally
  pub none_known : sender.tracker.deadlines ≡ None
  pub due : (now : ℤ) → neg_ℤ (pos (2 ^ 63)) ≤ℤ now → sender.next ≤ℤ now

abbrev pub IsStreamChannel : Stream → Option StreamStatsSender → StreamStatsReceiver → Type 0
IsStreamChannel stream None receiver = ⊥
IsStreamChannel stream (Some sender) receiver = AreStreamEnds stream sender receiver

-- there are both ends of the channel of the mix, with no peak noted and nothing sent
abbrev pub IsMixChannel : Option MixStatsSender → Option MixStatsReceiver → Type 0
IsMixChannel None receiver = ⊥
IsMixChannel (Some sender) None = ⊥
IsMixChannel (Some sender) (Some receiver) = IsFreshPair 1 sender.ring receiver.ring × (sender.peaks ≡ no_peaks)

-- there is a receiver for each path, place by place: the other end of the channel of the path's end
abbrev pub AllPathsReport : List PathEnd → List PathCountsReceiver → Type 0
AllPathsReport paths receivers = AllZip (λ (path : PathEnd) receiver. IsPathChannel path.sender receiver) paths receivers

-- there is a receiver for each stream, place by place: the other end of the channel of the stream's end
abbrev pub AllStreamsReport : List StreamEnd → List StreamStatsReceiver → Type 0
AllStreamsReport streams receivers = AllZip (λ (s : StreamEnd) receiver. IsStreamChannel s.spec s.sender receiver) streams receivers

-- each end has a sender, and its receiver is the other end of the sender's channel
pub record HaveReceivers (ends : Ends) (receivers : StatsReceivers) : Type 0 where
  pub paths : AllPathsReport ends.paths.items receivers.paths.items
  pub streams : AllStreamsReport ends.streams.items receivers.streams.items
  pub mix : IsMixChannel ends.mix.sender receivers.mix

-- no path's end has a sender, and no stream's end
abbrev pub AllPathsSilent : List PathEnd → Type 0
AllPathsSilent paths = All (λ (path : PathEnd). path.sender ≡ None) paths

abbrev pub AllStreamsSilent : List StreamEnd → Type 0
AllStreamsSilent streams = All (λ (s : StreamEnd). s.sender ≡ None) streams

-- no end has a sender of statistics
pub record HaveNoSender (ends : Ends) : Type 0 where
  pub paths : AllPathsSilent ends.paths.items
  pub streams : AllStreamsSilent ends.streams.items
  pub mix : ends.mix.sender ≡ None
