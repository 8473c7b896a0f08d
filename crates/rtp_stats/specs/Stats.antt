-- The statistics of a path, of a stream and of the mix: those of packets are from the packets that were offered, the latest first.
use Rattle.std.specs.Prelude.{◌≡◌, ℕ, ◌+◌, ◌^◌, ◌<◌, List, [], ◌∷◌, length, slice_index, ℤ, None, IfSome, IsNone}
use Rattle.rtp_stream.specs.declared.counts.Counts.{Counts}
use Rattle.rtp_stream.specs.declared.stream_spec.Stream.{Stream}
use Rattle.rtp_stats.specs.Offer.{Offer}
use Rattle.rtp_stats.specs.Missed.{missed_of}
use Rattle.rtp_stats.specs.Offers.{ahead_of, count_in_64_bits, double_of, first_of, late_of, unlike_of}
use Rattle.rtp_stats.specs.Repeats.{repeats_of}
use Rattle.rtp_stats.specs.Margins.{IsGreatest, IsLatest, IsLeast, IsMedian, last_spares, second_of}
use Rattle.rtp_stats.specs.declared.stats.MixStats.{MixStats}
use Rattle.rtp_stats.specs.declared.stats.PathStats.{PathStats}
use Rattle.rtp_stats.specs.declared.stats.StreamStats.{StreamStats}

-- the fates of a path's packets, and the arrival margins of the whole second before the one of this clock reading
pub record AreNumbers (stream : Stream) (offers : List Offer) (path : ℕ) (now : ℤ) (numbers : PathStats) : Type 0 where
  pub first : numbers.tally.first ≡ count_in_64_bits (first_of path offers)
  pub double : numbers.tally.double ≡ count_in_64_bits (double_of path offers)
  pub unlike : numbers.tally.unlike ≡ count_in_64_bits (unlike_of path offers)
  pub late : numbers.tally.late ≡ count_in_64_bits (late_of path offers)
  pub ahead : numbers.tally.ahead ≡ count_in_64_bits (ahead_of path offers)
  pub repeated : numbers.tally.repeated ≡ count_in_64_bits (repeats_of path offers)
  pub missed : numbers.tally.missed ≡ count_in_64_bits (missed_of stream.window path offers)
  pub least : IfSome numbers.spare (λ spare. IsLeast (last_spares path now offers) spare.least)
  pub greatest : IfSome numbers.spare (λ spare. IsGreatest (last_spares path now offers) spare.greatest)
  pub second : IfSome numbers.spare (λ spare. spare.second + 1 ≡ second_of now)
  pub median : length (last_spares path now offers) < 2 ^ 32 → IfSome numbers.spare (λ spare. IsMedian (last_spares path now offers) spare.median)
  pub none : IsLatest now offers → IsNone numbers.spare → last_spares path now offers ≡ []

-- the numbers have these counts, and the statistics of each path at this clock reading
pub record AreTold (stream : Stream) (offers : List Offer) (counts : Counts) (now : ℤ) (numbers : StreamStats) : Type 0 where
  pub counts_are : numbers.counts ≡ counts
  pub a : PathStats
  pub b : PathStats
  pub c : PathStats
  pub d : PathStats
  pub paths : numbers.paths ≡ a ∷ b ∷ c ∷ d ∷ []
  pub of_a : AreNumbers stream offers 0 now a
  pub of_b : AreNumbers stream offers 1 now b
  pub of_c : AreNumbers stream offers 2 now c
  pub of_d : AreNumbers stream offers 3 now d

-- the statistics of a path of which no packet was noted
abbrev pub no_stats : PathStats
no_stats = record { tally = record { first = 0; double = 0; unlike = 0; late = 0; ahead = 0; repeated = 0; missed = 0 }; spare = None }

-- the counts of the first eight channels; a channel that the output does not have counts 0
abbrev pub IsByChannel : List ℕ → MixStats → Type 0
IsByChannel counts numbers = (length numbers.saturated ≡ 8) × ((channel : ℕ) → channel < 8 → slice_index numbers.saturated channel ≡ slice_index counts channel)
