-- Worked cases of the drift, computed.
use Rattle.std.specs.Prelude.{◌≡◌, ℕ, List, [], ◌∷◌, pos, neg_ℤ, Some, None, refl}
use Rattle.rtp_stats.specs.Drift.{drift_of, minute_after, minute_from, year}
use Rattle.rtp_stats.specs.declared.arrival_margin.ArrivalMargin.{ArrivalMargin}

abbrev second : ℕ → ℕ → ArrivalMargin
second at margin = record { second = at; least = margin; median = 0; greatest = margin }

-- ten seconds; in each, packets come 10 sampling instants earlier: 10 in 48,000 are 208 parts in a million
abbrev earlier : List ArrivalMargin
earlier = second 0 100 ∷ second 1 110 ∷ second 2 120 ∷ second 3 130 ∷ second 4 140 ∷ second 5 150 ∷ second 6 160 ∷ second 7 170 ∷ second 8 180 ∷ second 9 190 ∷ []

-- the greatest margin is 190, and 2,882 more are used up in 288 seconds
fast : drift_of 10 3072 earlier ≡ Some (record { ppm = pos 208; left = 288 })
fast = refl

-- ten seconds; in each, packets come 10 later; the least margin, 910, is used up in 91
abbrev later : List ArrivalMargin
later = second 0 1000 ∷ second 1 990 ∷ second 2 980 ∷ second 3 970 ∷ second 4 960 ∷ second 5 950 ∷ second 6 940 ∷ second 7 930 ∷ second 8 920 ∷ second 9 910 ∷ []

slow : drift_of 10 3072 later ≡ Some (record { ppm = neg_ℤ (pos 208); left = 91 })
slow = refl

-- nine seconds are too few
abbrev nine : List ArrivalMargin
nine = second 0 100 ∷ second 1 110 ∷ second 2 120 ∷ second 3 130 ∷ second 4 140 ∷ second 5 150 ∷ second 6 160 ∷ second 7 170 ∷ second 8 180 ∷ []

too_few : drift_of 10 3072 nine ≡ None
too_few = refl

-- a clock that runs with the receiver's
abbrev steady : List ArrivalMargin
steady = second 0 480 ∷ second 1 480 ∷ second 2 480 ∷ second 3 480 ∷ second 4 480 ∷ second 5 480 ∷ second 6 480 ∷ second 7 480 ∷ second 8 480 ∷ second 9 480 ∷ []

none_at_all : drift_of 10 3072 steady ≡ Some (record { ppm = pos 0; left = year })
none_at_all = refl

-- one second of ten that is 10 more: a slope of 450 / 825, which is 11.4 parts in a million, and 2,582 * 825 / 450
-- seconds
abbrev one_more : List ArrivalMargin
one_more = second 0 480 ∷ second 1 480 ∷ second 2 480 ∷ second 3 480 ∷ second 4 480 ∷ second 5 480 ∷ second 6 480 ∷ second 7 480 ∷ second 8 480 ∷ second 9 490 ∷ []

nearest : drift_of 10 3072 one_more ≡ Some (record { ppm = pos 11; left = 4733 })
nearest = refl

-- seconds without packets are left out: ten of every second one, 5 in a second
abbrev gaps : List ArrivalMargin
gaps = second 0 100 ∷ second 2 110 ∷ second 4 120 ∷ second 6 130 ∷ second 8 140 ∷ second 10 150 ∷ second 12 160 ∷ second 14 170 ∷ second 16 180 ∷ second 18 190 ∷ []

with_gaps : drift_of 20 3072 gaps ≡ Some (record { ppm = pos 104; left = 576 })
with_gaps = refl

-- a minute after the first of ten seconds that second is in the minute still, and in the next second it isn't
still_ten : drift_of 60 3072 earlier ≡ Some (record { ppm = pos 208; left = 288 })
still_ten = refl

nine_left : drift_of 61 3072 earlier ≡ None
nine_left = refl

-- past the span of the window nothing is left
beyond : drift_of 10 150 earlier ≡ Some (record { ppm = pos 208; left = 0 })
beyond = refl

-- the second in which an epoch began is left out, and so is a second that is known
kept_out : minute_after (second 7 480) (minute_from 7) ≡ minute_from 7
kept_out = refl

known : minute_after (second 8 470) (minute_after (second 8 480) (minute_from 7)) ≡ record { next = 9; margins = second 8 480 ∷ [] }
known = refl
