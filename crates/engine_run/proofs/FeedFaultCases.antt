-- Worked cases of the numbers of faults of two feeds, computed.
use Rattle.std.specs.Prelude.{◌≡◌, true, List, [], ◌∷◌, refl}
use Rattle.std.proofs.Common.{arith}
use Rattle.studio_io.specs.Answers.{Answer, Gives, Fails, Stops, reaches_end}
use Rattle.studio_io.specs.FaultCounts.{AreFaultNumbers, told_faults}

-- the first feed failed once, and the second one twice
abbrev two_feeds : List (List Answer)
two_feeds = (Fails ∷ Gives (1 ∷ []) ∷ Stops ∷ []) ∷ (Fails ∷ Fails ∷ Stops ∷ []) ∷ []

each_has_its_number : AreFaultNumbers two_feeds (1 ∷ 2 ∷ [])
unfolding told_faults
each_has_its_number = ((λ whole few. refl), ((λ whole few. refl), tt))

not_the_number_of_the_other : AreFaultNumbers two_feeds (2 ∷ 1 ∷ []) → ⊥
unfolding reaches_end told_faults
not_the_number_of_the_other h = let one = h.0 refl (omega arith) in omega (arith, one)

no_feed_is_left_out : AreFaultNumbers two_feeds (1 ∷ []) → ⊥
no_feed_is_left_out h = h.1

-- of a feed whose results are not known to its end, no number is known
an_unknown_end : AreFaultNumbers ((Fails ∷ []) ∷ []) (7 ∷ [])
unfolding reaches_end
an_unknown_end = ((λ whole few. absurd (cc)), tt)
