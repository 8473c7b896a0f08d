-- The rings of a list that are finished and drained.
use Rattle.std.specs.Prelude.{◌≡◌, Bool, false, List, [], ◌∷◌, ◌↔◌, None, MatchOption, IsSomeAnd}
use Rattle.rtrb.specs.Ring.{received, all_sent, SameConsumer}
use Rattle.studio_ends.specs.DrainedRing.{IsDrained}
use Rattle.studio_ends.specs.declared.rings.TokenConsumer.{TokenConsumer}

module _ {T : Type 0} where
  -- a ring was only looked at: nothing was taken from it, and its token stayed
  pub record LooksAt (old new : TokenConsumer T) : Type 0 where
    pub ring : SameConsumer old.ring new.ring
    pub received_is : received new.ring ≡ received old.ring
    pub done : MatchOption old.done (new.done ≡ None) (λ d. IsSomeAnd new.done (λ e. all_sent e ≡ all_sent d))

  abbrev pub AllLookAt : List (TokenConsumer T) → List (TokenConsumer T) → Type 0
  AllLookAt [] [] = Unit {0}
  AllLookAt (old ∷ olds) (new ∷ news) = LooksAt old new × AllLookAt olds news
  AllLookAt [] (new ∷ news) = ⊥
  AllLookAt (old ∷ olds) [] = ⊥

  -- each flag is false exactly if the ring at its place is drained, or if there is no ring
  abbrev pub AreOpen : List Bool → List (TokenConsumer T) → Type 0
  AreOpen [] [] = Unit {0}
  AreOpen [] (side ∷ sides) = ⊥
  AreOpen (open_yet ∷ more) [] = (open_yet ≡ false) × AreOpen more []
  AreOpen (open_yet ∷ more) (side ∷ sides) = ((open_yet ≡ false) ↔ IsDrained side.ring side.done) × AreOpen more sides

  abbrev pub AllDrained : List (TokenConsumer T) → Type 0
  AllDrained [] = Unit {0}
  AllDrained (side ∷ sides) = IsDrained side.ring side.done × AllDrained sides

abbrev pub AllFalse : List Bool → Type 0
AllFalse [] = Unit {0}
AllFalse (b ∷ bs) = (b ≡ false) × AllFalse bs
