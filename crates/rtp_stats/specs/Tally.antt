-- The state of a tally after a list of offers, the latest first.
use Rattle.std.specs.Prelude.{◌≡◌, ℕ, ◌/◌, ◌%◌, ◌<◌, List, length, slice_index_or}
use Rattle.rtp_stream.specs.declared.stream_spec.Stream.{Stream}
use Rattle.rtp_stats.specs.declared.tally.fate_counts.FateCounts.{FateCounts}
use Rattle.rtp_stats.specs.declared.tally.window_copies.WindowCopies.{WindowCopies}
use Rattle.rtp_stats.specs.declared.tally.margins.MarginSecond.{MarginSecond}
use Rattle.rtp_stats.specs.Offer.{Offer}
use Rattle.rtp_stats.specs.Counts.{AreCounts, HasFates}
use Rattle.rtp_stats.specs.WindowCopies.{HasEntry}
use Rattle.rtp_stats.specs.Missed.{missed_of}
use Rattle.rtp_stats.specs.Repeats.{repeats_of}
use Rattle.rtp_stats.specs.MarginSecond.{HasSecond}

-- the part of a tally that contracts see
pub record TallyState : Type 0 where
  pub counts : FateCounts
  pub missed : List ℕ
  pub repeats : List ℕ
  pub entries : List WindowCopies
  pub seconds : List MarginSecond

-- what is kept at each place of a window
pub record HasEntries (window : ℕ) (offers : List Offer) (entries : List WindowCopies) : Type 0 where
  pub width : length entries ≡ window
  pub each : (place : ℕ) (d : WindowCopies) → place < window → HasEntry window place offers (slice_index_or entries place d)

-- what is kept of each path's even seconds, and then of its odd ones
pub record HasSeconds (offers : List Offer) (seconds : List MarginSecond) : Type 0 where
  pub eight : length seconds ≡ 8
  pub each : (k : ℕ) (d : MarginSecond) → k < 8 → HasSecond (k / 2) (k % 2) offers (slice_index_or seconds k d)

-- the tally of a stream has counted these offers
pub record HasTally (stream : Stream) (offers : List Offer) (tally : TallyState) : Type 0 where
  pub fates : HasFates offers tally.counts
  pub missed : AreCounts (λ path. missed_of stream.window path offers) tally.missed
  pub repeats : AreCounts (λ path. repeats_of path offers) tally.repeats
  pub entries : HasEntries stream.window offers tally.entries
  pub seconds : HasSeconds offers tally.seconds
