-- The arrival margins that are kept of a path's packets in one second.
use Rattle.std.specs.Prelude.{◌≡◌, ℕ, ◌+◌, ◌*◌, ◌/◌, ◌%◌, ◌-◌, ◌^◌, ◌<◌, ◌≤◌, max, min, nat_eq, nat_lt, ◌||◌, List, length, take, sum, replicate, count_by, slice_index, slice_index_or, slice_set, IsSome, if◌then◌else◌}
use Rattle.std.specs.List.{All, Contains}
use Rattle.rtp_stats.specs.declared.tally.margins.MarginSecond.{MarginSecond}
use Rattle.rtp_stats.specs.Offer.{Offer}
use Rattle.rtp_stats.specs.declared.arrival_margin.ArrivalMargin.{ArrivalMargin}
use Rattle.rtp_stats.specs.Margins.{second_of, spares_in}

-- the value of a counter of 32 bits
abbrev pub count_in_32_bits : ℕ → ℕ
count_in_32_bits n = min n (2 ^ 32 - 1)

-- the bin of an arrival margin: one for each 6 sampling instants, and the last for all greater margins
abbrev pub bin_of : ℕ → ℕ
bin_of spare = min (spare / 6) 1023

-- the number of arrival margins in a bin
abbrev pub count_in : ℕ → List ℕ → ℕ
count_in bin spares = count_by (λ x. nat_eq (bin_of x) bin) spares

-- a second in which nothing has come yet
abbrev pub empty_second : ℕ → MarginSecond
empty_second second = record { second = second; count = 0; least = 0; greatest = 0; bins = replicate 1024 0 }

-- the second with one more arrival margin
abbrev pub with_spare : ℕ → MarginSecond → MarginSecond
with_spare spare s = record {
  second = s.second;
  count = count_in_32_bits (s.count + 1);
  least = if nat_eq s.count 0 || nat_lt spare s.least then spare else s.least;
  greatest = max s.greatest spare;
  bins = slice_set s.bins (bin_of spare) (count_in_32_bits (slice_index s.bins (bin_of spare) + 1));
}

-- the second that is kept after one more packet: a packet of an earlier second is not noted
abbrev pub second_after : ℕ → ℕ → MarginSecond → MarginSecond
second_after second spare s =
    if nat_lt s.second second then with_spare spare (empty_second second)
    else if nat_eq s.second second then with_spare spare s
    else s

-- the second has what is kept of these arrival margins
pub record HasSpares (spares : List ℕ) (s : MarginSecond) : Type 0 where
  pub count : s.count ≡ count_in_32_bits (length spares)
  pub some : 0 < length spares → Contains spares s.least
  pub least : All (λ x. s.least ≤ x) spares
  pub fresh : length spares ≡ 0 → s.greatest ≡ 0
  pub one_greatest : 0 < length spares → Contains spares s.greatest
  pub greatest : All (λ x. x ≤ s.greatest) spares
  pub wide : length s.bins ≡ 1024
  pub bins : (bin : ℕ) → bin < 1024 → slice_index s.bins bin ≡ count_in_32_bits (count_in bin spares)

-- the bin of the median
pub record IsMiddle (bins : List ℕ) (count bin : ℕ) : Type 0 where
  pub in_range : bin < 1024
  pub below : 2 * sum (take bin bins) < count
  pub within : bin < 1023 → count ≤ 2 * sum (take (bin + 1) bins)

-- the least, the median and the greatest arrival margin, of what is kept of this second
pub record IsSpareOf (s : MarginSecond) (at : ℕ) (spare : ArrivalMargin) : Type 0 where
  pub second : s.second ≡ at
  pub some : 0 < s.count
  pub at_second : spare.second ≡ at
  pub least : spare.least ≡ s.least
  pub greatest : spare.greatest ≡ s.greatest
  pub median : spare.median ≡ 6 * (spare.median / 6)
  pub middle : IsMiddle s.bins s.count (spare.median / 6)

-- the place of a path's second among the kept ones
abbrev pub place_of : ℕ → ℕ → ℕ
place_of path second = 2 * path + second % 2

-- `count` places for seconds, in which no packet has come yet
pub record AreNewSeconds (count : ℕ) (seconds : List MarginSecond) : Type 0 where
  pub long : length seconds ≡ count
  pub each : (k : ℕ) (d : MarginSecond) → k < count → slice_index_or seconds k d ≡ empty_second (k % 2)

-- the arrival margins of a path, in the latest second with this parity in which it brought packets with a margin
pub record HasSecond (path parity : ℕ) (offers : List Offer) (s : MarginSecond) : Type 0 where
  pub parity_is : s.second % 2 ≡ parity
  pub begun : parity < s.second → 0 < s.count
  pub latest : All (λ o. o.path ≡ path → second_of o.now % 2 ≡ parity → IsSome o.spare → second_of o.now ≤ s.second) offers
  pub spares : HasSpares (spares_in path s.second offers) s
