-- Marks of one stream, fed one after another.
use Rattle.std.proofs.Common.{◌≡◌, inl, inr, ◌<◌, ◌+◌, ◌⊎◌, ℕ, zero, suc, Bool, true, false, not, List, [], ◌∷◌, ◌++◌, length, take, set, get_or, Some, slice_get, refl, sym, ap, subst, ◌∙◌, arith, append-nil, append_assoc}
use Rattle.std.specs.Prelude.{Option, None, IfSome}
use Rattle.std.proofs.lemmas.Bool.{false≢true}
use Rattle.std.proofs.lemmas.List.{take_more}
use Rattle.std.proofs.lemmas.Option.{slice_get_within}
use Rattle.rtp_stream.specs.StreamSpecFacts.{format_of}
use Rattle.rtp_stream.specs.MarkFacts.{MarkView}
use Rattle.rtp_stream.specs.MarkList.{is_mark_list}
use Rattle.studio_config.specs.Studio.{Studio}
use Rattle.studio_mix.specs.Feed.{Feed}
use Rattle.studio_mix.specs.Mixer.{MixerState, HasFeeds}
use Rattle.studio_session.proofs.PlayLemmas.{set_here}
use Rattle.example_callers.specs.Mix.{feed_with, is_final}

set_twice : {X : Type 0} (xs : List X) (i : ℕ) (a b : X) → set (set xs i a) i b ≡ set xs i b
set_twice [] i a b = refl
set_twice (x ∷ xs) zero a b = refl
set_twice (x ∷ xs) (suc i) a b = ap (λ l. x ∷ l) (set_twice xs i a b)

-- an element that is written again as it is
set_as_is : {X : Type 0} (xs : List X) (i : ℕ) (a : X) → slice_get xs i ≡ Some a → set xs i a ≡ xs
set_as_is [] i a at = refl
set_as_is (x ∷ xs) zero a at = ap (λ y. y ∷ xs) (let e : a ≡ x = cc in e)
set_as_is (x ∷ xs) (suc i) a at = ap (λ l. x ∷ l) (set_as_is xs i a at)

-- one mark more
pub one_more : (marks : List MarkView) (i : ℕ) (item mark : MarkView) → i < length marks → item ≡ get_or marks i item → mark ≡ item → take (i + 1) marks ≡ take i marks ++ mark ∷ []
one_more marks i item mark within is as_ref = take_more marks i item within ∙ ap (λ m. take i marks ++ m ∷ []) (sym is ∙ sym as_ref)

before_or_last : (n i : ℕ) → n < i + 1 → (n < i) ⊎ (n ≡ i)
before_or_last zero zero h = inr refl
before_or_last zero (suc i) h = inl (omega arith)
before_or_last (suc n) zero h = absurd (omega (arith, h))
before_or_last (suc n) (suc i) h = elim (before_or_last n i (omega (arith, h))) [ inl e ↦ inl (omega (arith, e)) | inr e ↦ inr (ap suc e) ]

not_covered : (wants covered : Bool) → wants ≡ true → wants ≡ not covered → covered ≡ false
not_covered wants false e f = refl
not_covered wants true e f = absurd (false≢true (sym f ∙ e))

pub all_covered : (wants covered : Bool) → wants ≡ false → wants ≡ not covered → covered ≡ true
all_covered wants true e f = refl
all_covered wants false e f = absurd (false≢true (sym e ∙ f))

module _ (studio : Studio) (feeds : List Feed) (number stream : ℕ) (feed : Feed) (at : slice_get feeds stream ≡ Some feed) where
  -- the feed after these marks
  pub after_at : (more : List MarkView) → slice_get (set feeds stream (feed_with feed more)) stream ≡ Some (feed_with feed more)
  after_at more = set_here feeds stream (feed_with feed more) (slice_get_within feeds stream feed at)

  -- no mark was fed yet
  pub fed_none : (mixer : MixerState) → HasFeeds studio mixer feeds number → HasFeeds studio mixer (set feeds stream (feed_with feed [])) number
  fed_none mixer fed =
      subst (λ fs. HasFeeds studio mixer fs number)
      (sym (ap (λ (ms : List MarkView). set feeds stream (record { stream = feed.stream; marks = ms })) (append-nil feed.marks) ∙ set_as_is feeds stream feed at)) fed

  module _ (marks : List MarkView) (i : ℕ) (mark : MarkView) (more : take (i + 1) marks ≡ take i marks ++ mark ∷ []) where
    longer : (feed.marks ++ take i marks) ++ mark ∷ [] ≡ feed.marks ++ take (i + 1) marks
    longer = append_assoc feed.marks (take i marks) (mark ∷ []) ∙ ap (λ l. feed.marks ++ l) (sym more)

    -- the next mark was fed
    pub fed_more : (mixer : MixerState) → HasFeeds studio mixer (set (set feeds stream (feed_with feed (take i marks))) stream (record { stream = feed.stream; marks = (feed.marks ++ take i marks) ++ mark ∷ [] })) number
        → HasFeeds studio mixer (set feeds stream (feed_with feed (take (i + 1) marks))) number
    fed_more mixer fed =
        subst (λ fs. HasFeeds studio mixer fs number)
        (set_twice feeds stream (feed_with feed (take i marks)) (record { stream = feed.stream; marks = (feed.marks ++ take i marks) ++ mark ∷ [] })
        ∙ ap (λ (ms : List MarkView). set feeds stream (record { stream = feed.stream; marks = ms })) longer) fed

    -- which may not follow
    pub not_listed : (accepts : Bool) → accepts ≡ false → accepts ≡ is_mark_list (format_of feed.stream) ((feed.marks ++ take i marks) ++ mark ∷ []) → is_mark_list (format_of feed.stream) (feed.marks ++ take (i + 1) marks) ≡ false
    not_listed accepts refused is = ap (is_mark_list (format_of feed.stream)) (sym longer) ∙ sym is ∙ refused

  -- the next mark was needed, as those before it
  pub wanted_more : (marks : List MarkView) (i : ℕ) (wants : Bool) → wants ≡ true → wants ≡ not (is_final studio number (feed_with feed (take i marks)))
      → ((fewer : ℕ) → fewer < i → is_final studio number (feed_with feed (take fewer marks)) ≡ false)
      → (fewer : ℕ) → fewer < i + 1 → is_final studio number (feed_with feed (take fewer marks)) ≡ false
  wanted_more marks i wants asked is before fewer h =
      elim (before_or_last fewer i h) [
        | inl e ↦ before fewer e
        | inr e ↦ ap (λ n. is_final studio number (feed_with feed (take n marks))) e ∙ not_covered wants (is_final studio number (feed_with feed (take i marks))) asked is
      ]

pub if_some_then : {X : Type 0} {P Q : X → Type 0} (o : Option X) → ((x : X) → P x → Q x) → IfSome o P → IfSome o Q
if_some_then (Some x) f p = f x p
if_some_then None f p = tt
