-- The results of a feed, one after another.
use Rattle.std.proofs.Common.{◌≡◌, ℕ, true, List, [], ◌∷◌, refl}
use Rattle.studio_io.specs.Answers.{Answer, Tells, answer_of, reaches_end}
use Rattle.studio_io.specs.declared.feed.FeedAnswer.{FeedAnswer}

-- if the results of a feed are known to its end, the first of them is the one that was returned
pub told-next : (k : ℕ) (left : List Answer) (b : List ℕ) (r : FeedAnswer) (rest : List Answer) → reaches_end k left ≡ true → Tells left b r rest → left ≡ answer_of b r ∷ rest
unfolding reaches_end
told-next k [] b r rest w t = absurd (cc)
told-next k (a ∷ rs) b r rest w t = rw (t.0, t.1) refl
