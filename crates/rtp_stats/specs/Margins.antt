-- The arrival margins of a path's packets, second by second.
use Rattle.std.specs.Prelude.{◌≡◌, ℕ, zero, suc, ◌+◌, ◌*◌, ◌/◌, ◌%◌, ◌<◌, ◌≤◌, Bool, nat_eq, nat_lt, ◌&&◌, List, [], ◌∷◌, ◌++◌, length, count_by, ℤ, pos, negsuc, ◌≤ℤ◌, Option, Some, None, if◌then◌else◌}
use Rattle.std.specs.List.{All, Contains}
use Rattle.rtp_stats.specs.Offer.{Offer}

-- the second of the clock that a time is in, of 48,000 sampling instants; times before 0 are in the first
abbrev pub second_of : ℤ → ℕ
second_of (pos time) = time / 48000
second_of (negsuc time) = 0

-- the offer came on this path in this second
abbrev pub is_in : ℕ → ℕ → Offer → Bool
is_in path second o = nat_eq o.path path && nat_eq (second_of o.now) second

-- the arrival margin of an offer, if the offer came on this path in this second and has a margin
abbrev pub spare_at : ℕ → ℕ → Offer → Option ℕ → List ℕ
spare_at path second o None = []
spare_at path second o (Some spare) = if is_in path second o then spare ∷ [] else []

-- the arrival margins of a path's packets in a second
abbrev pub spares_in : ℕ → ℕ → List Offer → List ℕ
spares_in path second [] = []
spares_in path second (o ∷ before) = spare_at path second o o.spare ++ spares_in path second before

-- the arrival margins in the whole second before this one; the first second has none before it
abbrev pub spares_before : ℕ → ℕ → List Offer → List ℕ
spares_before path zero offers = []
spares_before path (suc second) offers = spares_in path second offers

abbrev pub last_spares : ℕ → ℤ → List Offer → List ℕ
last_spares path now offers = spares_before path (second_of now) offers

-- no offer came after this clock reading
abbrev pub IsLatest : ℤ → List Offer → Type 0
IsLatest now offers = All (λ o. o.now ≤ℤ now) offers

-- the least of some numbers
pub record IsLeast (xs : List ℕ) (least : ℕ) : Type 0 where
  pub one : Contains xs least
  pub below_all : All (λ x. least ≤ x) xs

-- the greatest of some numbers
pub record IsGreatest (xs : List ℕ) (greatest : ℕ) : Type 0 where
  pub one : Contains xs greatest
  pub above_all : All (λ x. x ≤ greatest) xs

-- the median of some arrival margins, rounded down to 6 sampling instants (1/8 ms): fewer than one half of them are
-- less, and at least one half are less than 6 more; the greatest median that is reported is 6,138 (128 ms)
pub record IsMedian (xs : List ℕ) (median : ℕ) : Type 0 where
  pub whole : median % 6 ≡ 0
  pub most : median ≤ 6138
  pub below : 2 * count_by (λ x. nat_lt x median) xs < length xs
  pub within : median < 6138 → length xs ≤ 2 * count_by (λ x. nat_lt x (median + 6)) xs
