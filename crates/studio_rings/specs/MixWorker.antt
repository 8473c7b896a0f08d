-- The datagrams that the mixer's worker makes, and those that are passed to its sink.
use Rattle.std.specs.Prelude.{◌≡◌, ℕ, ◌+◌, ◌<◌, ◌^◌, Bool, true, ℤ, List, [], ◌∷◌, ◌++◌, length, Option}
use Rattle.rtrb.specs.Ring.{SameConsumer}
use Rattle.rtp_stream.specs.MarkFacts.{MarkView}
use Rattle.studio_config.specs.Studio.{Studio}
use Rattle.studio_mix.specs.Changed.{with_changes}
use Rattle.studio_ends.specs.Datagrams.{AreAllGiven, HasGiven}
use Rattle.studio_ends.specs.declared.rings.TokenConsumer.{TokenConsumer}
use Rattle.studio_ends.specs.declared.mix_end.MixEnd.{MixEnd}
use Rattle.studio_io.specs.Sinks.{Hands}

-- the same rings, with the same tokens
abbrev pub AreSameSides : List (TokenConsumer MarkView) → List (TokenConsumer MarkView) → Type 0
AreSameSides [] [] = Unit {0}
AreSameSides (old ∷ olds) (new ∷ news) = (SameConsumer old.ring new.ring × (new.done ≡ old.done)) × AreSameSides olds news
AreSameSides [] (new ∷ news) = ⊥
AreSameSides (old ∷ olds) [] = ⊥

module _ {K : Type 0} where
  -- the mixer's end returned some datagrams. If the sink's contents are known, it was passed exactly these, each once.
  -- If the end was idle, they complete the datagrams of all blocks that are ready by the accepted marks
  pub record Mixes (handed : K → Option (List (List ℕ))) (s : MixEnd) (sink : K) (counted : ℕ) (idle : Bool) (t : MixEnd) (new_sink : K) (new_counted : ℕ) : Type 0 where
    pub datagrams : List (List ℕ)
    pub count : counted + length datagrams < 2 ^ 64 → new_counted ≡ counted + length datagrams
    pub hands : Hands (handed sink) datagrams (handed new_sink)
    pub rings : AreSameSides s.sides.items t.sides.items
    pub given : (studio : Studio) (before : List (List ℕ)) → HasGiven studio s before → HasGiven studio t (before ++ datagrams)
    pub all : idle ≡ true → (studio : Studio) (before : List (List ℕ)) → HasGiven studio s before → AreAllGiven studio t (before ++ datagrams)

  -- `Mixes`, for the studio with exactly the changes of gains that the source took
  pub record MixesWith (handed : K → Option (List (List ℕ))) (s : MixEnd) (sink : K) (counted : ℕ) (idle : Bool) (t : MixEnd) (new_sink : K) (new_counted : ℕ) (first last : List (ℤ × List ℤ)) : Type 0 where
    pub changes : List (ℤ × List ℤ)
    pub taken : last ≡ first ++ changes
    pub datagrams : List (List ℕ)
    pub count : counted + length datagrams < 2 ^ 64 → new_counted ≡ counted + length datagrams
    pub hands : Hands (handed sink) datagrams (handed new_sink)
    pub rings : AreSameSides s.sides.items t.sides.items
    pub given : (studio : Studio) (before : List (List ℕ)) → HasGiven studio s before → HasGiven (with_changes studio changes) t (before ++ datagrams)
    pub all : idle ≡ true → (studio : Studio) (before : List (List ℕ)) → HasGiven studio s before → AreAllGiven (with_changes studio changes) t (before ++ datagrams)
