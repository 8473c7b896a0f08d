-- Worked cases of the number of a feed's faults, computed.
use Rattle.std.specs.Prelude.{◌≡◌, [], ◌∷◌, refl}
use Rattle.studio_io.specs.Answers.{Gives, Waits, Fails, Stops}
use Rattle.studio_io.specs.FaultCounts.{told_faults}

no_result_is_known : told_faults 0 [] ≡ 0
unfolding told_faults
no_result_is_known = refl

-- what comes behind the end is not asked for
two_faults_before_the_end : told_faults 0 (Fails ∷ Gives (1 ∷ []) ∷ Waits ∷ Fails ∷ Stops ∷ Fails ∷ []) ≡ 2
unfolding told_faults
two_faults_before_the_end = refl

-- after 998 in a row the second one is the 1,000th, which ends the feed
the_thousandth_is_the_last : told_faults 998 (Fails ∷ Fails ∷ Fails ∷ []) ≡ 2
unfolding told_faults
the_thousandth_is_the_last = refl

-- after a datagram, or nothing, the faults in a row are counted from 0 again
a_row_begins_anew : told_faults 998 (Fails ∷ Waits ∷ Fails ∷ Fails ∷ Stops ∷ []) ≡ 3
unfolding told_faults
a_row_begins_anew = refl
