-- The channels of statistics, while they are opened one after another.
use Rattle.std.specs.Prelude.{◌≡◌, true, false, List, [], ◌∷◌, ◌++◌, Option, None}
use Rattle.rtp_stats.specs.declared.channel.mix_sender.MixStatsSender.{MixStatsSender}
use Rattle.rtp_stats.specs.declared.channel.path.PathCountsReceiver.{PathCountsReceiver}
use Rattle.rtp_stats.specs.declared.channel.path.PathCountsSender.{PathCountsSender}
use Rattle.rtp_stats.specs.declared.channel.stream.StreamStatsReceiver.{StreamStatsReceiver}
use Rattle.rtp_stats.specs.declared.channel.stream.StreamStatsSender.{StreamStatsSender}
use Rattle.rtp_stream.specs.declared.stream_spec.Stream.{Stream}
use Rattle.studio_ends.specs.Receivers.{AllPathsReport, AllPathsSilent, AllStreamsReport, AllStreamsSilent, IsMixChannel, IsPathChannel, IsStreamChannel}
use Rattle.studio_ends.specs.declared.path_end.PathEnd.{PathEnd}
use Rattle.studio_ends.specs.declared.stats_channels.StatsChannels.{StatsChannels}
use Rattle.studio_ends.specs.declared.stream_end.StreamEnd.{StreamEnd}

-- the channel of one more path was opened, with this sender; none if statistics are not wanted
pub record OpensPath (old : StatsChannels) (sender : Option PathCountsSender) (new : StatsChannels) : Type 0 where
  pub wanted : new.are_wanted ≡ old.are_wanted
  pub streams : new.receivers.streams.items ≡ old.receivers.streams.items
  pub opened : old.are_wanted ≡ true
      → (receiver : PathCountsReceiver) × (new.receivers.paths.items ≡ old.receivers.paths.items ++ receiver ∷ []) × IsPathChannel sender receiver
  pub silent : old.are_wanted ≡ false → sender ≡ None

-- the channel of one more stream was opened, with this sender; none if statistics are not wanted
pub record OpensStream (stream : Stream) (old : StatsChannels) (sender : Option StreamStatsSender) (new : StatsChannels) : Type 0 where
  pub wanted : new.are_wanted ≡ old.are_wanted
  pub paths : new.receivers.paths.items ≡ old.receivers.paths.items
  pub opened : old.are_wanted ≡ true
      → (receiver : StreamStatsReceiver) × (new.receivers.streams.items ≡ old.receivers.streams.items ++ receiver ∷ []) × IsStreamChannel stream sender receiver
  pub silent : old.are_wanted ≡ false → sender ≡ None

-- the channel of the mix was opened, with this sender; none if statistics are not wanted
pub record OpensMix (old : StatsChannels) (sender : Option MixStatsSender) (new : StatsChannels) : Type 0 where
  pub wanted : new.are_wanted ≡ old.are_wanted
  pub paths : new.receivers.paths.items ≡ old.receivers.paths.items
  pub streams : new.receivers.streams.items ≡ old.receivers.streams.items
  pub opened : old.are_wanted ≡ true → IsMixChannel sender new.receivers.mix
  pub silent : old.are_wanted ≡ false → sender ≡ None

-- the receivers are those of these paths and streams; if statistics are not wanted, no end has a sender
pub record HaveChannels (paths : List PathEnd) (streams : List StreamEnd) (channels : StatsChannels) : Type 0 where
  pub paths_report : channels.are_wanted ≡ true → AllPathsReport paths channels.receivers.paths.items
  pub streams_report : channels.are_wanted ≡ true → AllStreamsReport streams channels.receivers.streams.items
  pub paths_silent : channels.are_wanted ≡ false → AllPathsSilent paths
  pub streams_silent : channels.are_wanted ≡ false → AllStreamsSilent streams
