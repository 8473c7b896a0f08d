-- The change that a token makes to the ends of rings.
use Rattle.std.specs.Prelude.{◌≡◌, ℕ, zero, suc, List, [], ◌∷◌, IsSome, IfSome}
use Rattle.rtrb.specs.Ring.{all_sent}
use Rattle.studio_ends.specs.declared.rings.TokenConsumer.{TokenConsumer}

module _ {T : Type 0} where
  -- the ring's consumer has the token, which reports that these items were sent
  pub record HasToken (old : TokenConsumer T) (all : List T) (new : TokenConsumer T) : Type 0 where
    pub ring : new.ring ≡ old.ring
    pub token : IsSome new.done
    pub tells : IfSome new.done (λ done. all_sent done ≡ all)

  -- the consumer at this place has the token, and the others are as they were
  abbrev pub HandsIn : List (TokenConsumer T) → ℕ → List T → List (TokenConsumer T) → Type 0
  HandsIn (old ∷ olds) zero all (new ∷ news) = HasToken old all new × (news ≡ olds)
  HandsIn (old ∷ olds) (suc place) all (new ∷ news) = (new ≡ old) × HandsIn olds place all news
  HandsIn [] place all news = ⊥
  HandsIn (old ∷ olds) zero all [] = ⊥
  HandsIn (old ∷ olds) (suc place) all [] = ⊥
