-- The latest statistics that workers sent.
use Rattle.std.specs.Prelude.{◌≡◌, ℕ, List, length, replicate, slice_get, Option, Some, None, option_map}
use Rattle.rtp_stream.specs.declared.stream_counts.PathCounts.{PathCounts}
use Rattle.rtp_stats.specs.Channel.{IsNewest}
use Rattle.rtp_stats.specs.declared.channel.mix.MixStatsReceiver.{MixStatsReceiver}
use Rattle.rtp_stats.specs.declared.stats.MixStats.{MixStats}
use Rattle.rtp_stats.specs.declared.stats.StreamStats.{StreamStats}
use Rattle.rtp_stats.specs.declared.channel.path.PathCountsReceiver.{PathCountsReceiver}
use Rattle.rtp_stats.specs.declared.channel.stream.StreamStatsReceiver.{StreamStatsReceiver}

-- the value that was received now, or, if none was, the one before it
abbrev pub last_of : {T : Type 0} → Option T → Option T → Option T
last_of None before = before
last_of (Some newest) before = Some newest

-- the same of the mix: if nothing was received now, the peaks are 0
abbrev pub mix_last_of : Option MixStats → Option MixStats → Option MixStats
mix_last_of None before = option_map (λ (numbers : MixStats). record numbers { peaks = replicate 8 0 }) before
mix_last_of (Some newest) before = Some newest

-- a receiver of a path, of a stream or of the mix received its newest value
abbrev pub RefreshesPath : PathCountsReceiver → PathCountsReceiver → Option PathCounts → Option PathCounts → Type 0
RefreshesPath old new before last = (newest : Option PathCounts) × IsNewest 1 newest old.ring new.ring × (last ≡ last_of newest before)

abbrev pub RefreshesStream : StreamStatsReceiver → StreamStatsReceiver → Option StreamStats → Option StreamStats → Type 0
RefreshesStream old new before last = (newest : Option StreamStats) × IsNewest 4 newest old.ring new.ring × (last ≡ last_of newest before)

abbrev pub RefreshesMix : MixStatsReceiver → MixStatsReceiver → Option MixStats → Option MixStats → Type 0
RefreshesMix old new before last = (newest : Option MixStats) × IsNewest 1 newest old.ring new.ring × (last ≡ mix_last_of newest before)

-- each of these receivers refreshed its place
pub record AreRefreshed {W T : Type 0} (Refreshes : W → W → Option T → Option T → Type 0) (olds news : List W) (befores lasts : List (Option T)) : Type 0 where
  pub receivers_are : length news ≡ length olds
  pub places_are : length lasts ≡ length befores
  pub each : (place : ℕ) (old new : W) (before last : Option T) → slice_get olds place ≡ Some old → slice_get news place ≡ Some new
      → slice_get befores place ≡ Some before → slice_get lasts place ≡ Some last → Refreshes old new before last
