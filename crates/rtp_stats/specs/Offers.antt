-- The fates of a path's offers, in a list with the latest first.
use Rattle.std.specs.Prelude.{ℕ, ◌-◌, ◌^◌, min, Bool, ◌&&◌, nat_eq, List, count_by}
use Rattle.rtp_stream.specs.declared.fate.Fate.{Fate}
use Rattle.rtp_stream.specs.Counts.{is_ahead, is_double, is_late, is_taken_fate, is_unlike}
use Rattle.rtp_stats.specs.Offer.{Offer}

-- the value of a counter of 64 bits: it stays at its greatest
abbrev pub count_in_64_bits : ℕ → ℕ
count_in_64_bits n = min n (2 ^ 64 - 1)

-- the number of a path's offers whose fate passes the test
abbrev pub offers_of : (Fate → Bool) → ℕ → List Offer → ℕ
offers_of test path offers = count_by (λ o. nat_eq o.path path && test o.fate) offers

-- the path's packets that were the first copies of their numbers
abbrev pub first_of : ℕ → List Offer → ℕ
first_of path offers = offers_of is_taken_fate path offers

-- the path's packets that were further copies, with the payload of the first
abbrev pub double_of : ℕ → List Offer → ℕ
double_of path offers = offers_of is_double path offers

-- the path's packets that were further copies, with a different payload
abbrev pub unlike_of : ℕ → List Offer → ℕ
unlike_of path offers = offers_of is_unlike path offers

-- the path's packets that came too late
abbrev pub late_of : ℕ → List Offer → ℕ
late_of path offers = offers_of is_late path offers

-- the path's packets that came too early for the window
abbrev pub ahead_of : ℕ → List Offer → ℕ
ahead_of path offers = offers_of is_ahead path offers

-- the numbers that were taken, from whichever path
abbrev pub taken_of : List Offer → ℕ
taken_of offers = count_by (λ o. is_taken_fate o.fate) offers
