-- Worked cases of the definitions, computed.
use Rattle.std.specs.Prelude.{◌≡◌, ℕ, false, List, [], ◌∷◌, ℤ, pos, negsuc, Some, None, refl}
use Rattle.rtp_stream.specs.declared.fate.Fate.{Fate}
use Rattle.rtp_stream.specs.declared.fate.Fate.TheVariants.{Double, Late, Restarted, Taken, Unlike}
use Rattle.rtp_stats.specs.Missed.{missed_of}
use Rattle.rtp_stats.specs.Offers.{double_of, first_of}
use Rattle.rtp_stats.specs.Margins.{last_spares}
use Rattle.rtp_stats.specs.Offer.{Offer}

abbrev offer : ℕ → Fate → ℕ → Offer
offer path fate seq = record { path = path; fate = fate; seq = seq; spare = None; now = pos 0; again = false }

abbrev timed : ℕ → ℕ → ℤ → Offer
timed path spare now = record { path = path; fate = Taken; seq = 0; spare = Some spare; now = now; again = false }

-- 100 and 101 come on path 0, and 100 on path 1 too; nothing is missed while another copy could come
abbrev two_numbers : List Offer
two_numbers = offer 0 Taken 101 ∷ offer 1 Double 100 ∷ offer 0 Taken 100 ∷ []

none_is_missed_yet : missed_of 8 1 two_numbers ≡ 0
none_is_missed_yet = refl

-- once 109 is taken, eight later, path 1 has missed 101; 108 ends the time of 100, which it brought
missed_a_window_later : missed_of 8 1 (offer 0 Taken 109 ∷ offer 0 Taken 108 ∷ two_numbers) ≡ 1
missed_a_window_later = refl

none_missed_by_the_first : missed_of 8 0 (offer 0 Taken 109 ∷ offer 0 Taken 108 ∷ two_numbers) ≡ 0
none_missed_by_the_first = refl

-- it is counted once, even if 108 and 109 come again
missed_once : missed_of 8 1 (offer 1 Double 109 ∷ offer 0 Late 101 ∷ offer 0 Taken 109 ∷ two_numbers) ≡ 1
missed_once = refl

-- a copy that comes too late is a copy: the network lost nothing
late_is_not_missed : missed_of 8 1 (offer 0 Taken 109 ∷ offer 1 Late 101 ∷ two_numbers) ≡ 0
late_is_not_missed = refl

-- a number with a different payload on the other path is not missed
unlike_is_not_missed : missed_of 8 1 (offer 0 Taken 109 ∷ offer 1 Unlike 101 ∷ two_numbers) ≡ 0
unlike_is_not_missed = refl

-- a late packet of a window before is no copy of the number that has its place now
another_late_number : missed_of 8 1 (offer 0 Taken 109 ∷ offer 1 Late 93 ∷ two_numbers) ≡ 1
another_late_number = refl

-- sequence numbers wrap: 5 comes eight numbers after 65533
wrapped : missed_of 8 1 (offer 0 Taken 5 ∷ offer 0 Taken 65533 ∷ []) ≡ 1
wrapped = refl

-- a restart of the source may begin with the number that was taken last; what was before it is missed
restarted : missed_of 8 1 (offer 0 Restarted 100 ∷ offer 0 Taken 100 ∷ []) ≡ 1
restarted = refl

-- a number that is the first copy on one path is a double on another
firsts_and_doubles : first_of 0 two_numbers ≡ 2
firsts_and_doubles = refl

doubles_of_path_1 : double_of 1 two_numbers ≡ 1
doubles_of_path_1 = refl

-- a second has 48,000 sampling instants, and the statistics are of the second before the reading's
abbrev timed_offers : List Offer
timed_offers = timed 0 30 (pos 48000) ∷ timed 1 20 (pos 47999) ∷ timed 0 10 (pos 47999) ∷ timed 0 40 (negsuc 0) ∷ []

in_the_first_second : last_spares 0 (pos 47999) timed_offers ≡ []
in_the_first_second = refl

of_the_first_second : last_spares 0 (pos 95999) timed_offers ≡ 10 ∷ 40 ∷ []
of_the_first_second = refl

of_the_next_second : last_spares 0 (pos 96000) timed_offers ≡ 30 ∷ []
of_the_next_second = refl
