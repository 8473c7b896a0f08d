-- The ends of a ring of numbers, the values that go into it, and the value that a look takes out of it.
use Rattle.std.specs.Prelude.{◌≡◌, ◌⊎◌, ℕ, List, [], ◌∷◌, ◌++◌, length, Option, None}
use Rattle.std.specs.List.{last_or}
use mathlib.Core.List.{IsPrefix}
use Rattle.rtrb.specs.Ring.{IsPair, known_free, known_items, received, sent}
use Rattle.rtrb.specs.declared.consumer.Consumer.{Consumer}
use Rattle.rtrb.specs.declared.producer.Producer.{Producer}

module _ {T A P : Type 0} where
  -- the two ends of one ring of this many places, as they are opened: nothing was sent, and nothing was taken out
  pub record IsFreshPair (places : ℕ) (p : Producer T A P) (c : Consumer T A P) : Type 0 where
    pub pair : IsPair p c
    pub none_sent : sent p ≡ []
    pub all_free : known_free p ≡ places
    pub none_received : received c ≡ []
    pub none_known : known_items c ≡ []

  -- this value went through the ring
  abbrev pub GoesThrough : T → Producer T A P → Producer T A P → Type 0
  GoesThrough value old new = sent new ≡ sent old ++ value ∷ []

  -- nothing went through: no place was known to be free, and none was found
  abbrev pub HasNoPlace : Producer T A P → Producer T A P → Type 0
  HasNoPlace old new = (sent new ≡ sent old) × (known_free old ≡ 0) × (known_free new ≡ 0)

  -- the value went through, or there was no place for it
  abbrev pub Gives : T → Producer T A P → Producer T A P → Type 0
  Gives value old new = GoesThrough value old new ⊎ HasNoPlace old new

  -- these values were taken out, first those that were known to be there; then no more were found, or `most` were taken
  pub record Takes (most : ℕ) (taken : List T) (old new : Consumer T A P) : Type 0 where
    pub received_are : received new ≡ received old ++ taken
    pub seen : IsPrefix (known_items old) (taken ++ known_items new)
    pub all : (known_items new ≡ []) ⊎ (length taken ≡ most)

  -- the newest of the values that a look took out, at most `most` of them; none if it took none
  abbrev pub IsNewest : ℕ → Option T → Consumer T A P → Consumer T A P → Type 0
  IsNewest most newest old new = (taken : List T) × Takes most taken old new × (newest ≡ last_or None taken)
