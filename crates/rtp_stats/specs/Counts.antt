-- Numbers of offers by fate and path.
use Rattle.std.specs.Prelude.{◌≡◌, ℕ, ◌+◌, ◌<◌, List, length, slice_index, slice_set}
use Rattle.rtp_stream.specs.declared.fate.Fate.{Fate}
use Rattle.rtp_stream.specs.declared.fate.Fate.TheVariants.{Closed, CountersFull, WrongSource, OffGrid, Late, Ahead, Taken, Double, Unlike, Restarted}
use Rattle.rtp_stats.specs.declared.tally.fate_counts.FateCounts.{FateCounts}
use Rattle.rtp_stats.specs.Offer.{Offer}
use Rattle.rtp_stats.specs.Offers.{ahead_of, count_in_64_bits, double_of, first_of, late_of, unlike_of}

-- the counters with one more for a path
abbrev pub one_more : ℕ → List ℕ → List ℕ
one_more path numbers = slice_set numbers path (count_in_64_bits (slice_index numbers path + 1))

-- the counters after one more offer
abbrev pub with_fate : ℕ → Fate → FateCounts → FateCounts
with_fate path Taken c = record c { first = one_more path c.first }
with_fate path Restarted c = record c { first = one_more path c.first }
with_fate path Double c = record c { double = one_more path c.double }
with_fate path Unlike c = record c { unlike = one_more path c.unlike }
with_fate path Late c = record c { late = one_more path c.late }
with_fate path Closed c = c
with_fate path CountersFull c = c
with_fate path WrongSource c = c
with_fate path OffGrid c = c
with_fate path Ahead c = record c { ahead = one_more path c.ahead }

-- a counter of 64 bits for each path, of the number that `of` has for the path
pub record AreCounts (of : ℕ → ℕ) (numbers : List ℕ) : Type 0 where
  pub four : length numbers ≡ 4
  pub each : (path : ℕ) → path < 4 → slice_index numbers path ≡ count_in_64_bits (of path)

-- the counters after these offers
pub record HasFates (offers : List Offer) (c : FateCounts) : Type 0 where
  pub first : AreCounts (λ path. first_of path offers) c.first
  pub double : AreCounts (λ path. double_of path offers) c.double
  pub unlike : AreCounts (λ path. unlike_of path offers) c.unlike
  pub late : AreCounts (λ path. late_of path offers) c.late
  pub ahead : AreCounts (λ path. ahead_of path offers) c.ahead
