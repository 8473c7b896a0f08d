-- Two lists, place by place, as a loop goes over them.
use Rattle.std.proofs.Common.{◌≡◌, ◌⊎◌, inl, inr, ℕ, zero, suc, ◌+◌, ◌<◌, ◌≤◌, List, [], ◌∷◌, ◌++◌, length, slice_get, Some, refl, sym, ap, subst, ◌∙◌, arith, length-append}
use Rattle.std.proofs.Common.{set, ◌≢◌, Result, Ok, Err, IsOk, OnOk}
use Rattle.std.specs.List.{refill}
use Rattle.std.proofs.lemmas.Grind.{common_steps}
use Rattle.std.proofs.lemmas.Option.{gets, slice_get_within}
use Rattle.live_status.specs.Each.{AreEach}

-- the elements below this place have this relation to the old ones, and the others did not change
pub record IsUpTo {X : Type 0} (P : ℕ → X → X → Type 0) (n : ℕ) (olds news : List X) : Type 0 where
  pub length_is : length news ≡ length olds
  pub done : (place : ℕ) (x y : X) → place < n → slice_get olds place ≡ Some x → slice_get news place ≡ Some y → P place x y
  pub left : (place : ℕ) → n ≤ place → slice_get news place ≡ slice_get olds place

-- there are this many elements, and each has this relation to the one at its place
pub record IsBegun {X Y : Type 0} (P : ℕ → X → Y → Type 0) (n : ℕ) (xs : List X) (ys : List Y) : Type 0 where
  pub length_is : length ys ≡ n
  pub each : (place : ℕ) (x : X) (y : Y) → slice_get xs place ≡ Some x → slice_get ys place ≡ Some y → P place x y

-- an element of a list with one more is that one, or was there before
pub get-push : {Y : Type 0} (ys : List Y) (y b : Y) (place : ℕ) → slice_get (ys ++ y ∷ []) place ≡ Some b → (slice_get ys place ≡ Some b) ⊎ ((place ≡ length ys) × (y ≡ b))
get-push [] y b zero at = inr (refl, cc at)
get-push [] y b (suc place) at = absurd (cc at)
get-push (z ∷ ys) y b zero at = inl at
get-push (z ∷ ys) y b (suc place) at = elim (get-push ys y b place at) [ inl p ↦ inl p | inr q ↦ inr (ap suc q.0, q.1) ]

-- one more
pub begun-push : {X Y : Type 0} (P : ℕ → X → Y → Type 0) (n : ℕ) (xs : List X) (ys : List Y) (x : X) (y : Y) → IsBegun P n xs ys → slice_get xs n ≡ Some x → P n x y → IsBegun P (n + 1) xs (ys ++ y ∷ [])
begun-push {X} P n xs ys x y begun at this = record {
  length_is = (let more = length-append ys (y ∷ []) in let now = begun.length_is in omega (arith, more, now));
  each = λ place a b in_xs in_ys.
      elim (get-push ys y b place in_ys) [
        | inl before ↦ begun.each place a b in_xs before
        | inr new ↦
            let here : place ≡ n = new.0 ∙ begun.length_is in
            let same : x ≡ a = cc (at, in_xs, here) in
            subst (λ k. P k a b) (sym here) (subst (λ v. P n v b) same (subst (λ w. P n x w) new.1 this))
      ];
}

-- the elements where one was written, and elsewhere
pub get-set : {X : Type 0} (xs : List X) (n : ℕ) (y : X) → n < length xs → slice_get (set xs n y) n ≡ Some y
get-set xs n y within = grind (arith, common_steps, gets)

pub get-set_else : {X : Type 0} (xs : List X) (n place : ℕ) (y : X) → place ≢ n → slice_get (set xs n y) place ≡ slice_get xs place
get-set_else xs n place y other = grind (arith, common_steps, gets)

-- a place below the next is below this one, or it is this one
pub below_next : (place n : ℕ) → place < n + 1 → (place < n) ⊎ (place ≡ n)
below_next place n h = grind arith

-- the element at this place was changed too
pub upto-set : {X : Type 0} (P : ℕ → X → X → Type 0) (n : ℕ) (olds news : List X) (old new : X)
    → IsUpTo P n olds news → n < length news → slice_get olds n ≡ Some old → P n old new → IsUpTo P (n + 1) olds (set news n new)
upto-set P n olds news old new upto within at this = record {
  length_is = (let same = upto.length_is in grind (arith, common_steps));
  done = λ place x y below in_olds in_news.
      elim (below_next place n below) [
        | inl less ↦ upto.done place x y less in_olds (sym (get-set_else news n place new (omega arith)) ∙ in_news)
        | inr same ↦
            let is_old : old ≡ x = cc (at, in_olds, same) in
            let is_new : new ≡ y = cc (get-set news n new within, in_news, same) in
            subst (λ k. P k x y) (sym same) (subst (λ v. P n v y) is_old (subst (λ w. P n old w) is_new this))
      ];
  left = λ place above. get-set_else news n place new (omega arith) ∙ upto.left place (omega arith);
}

-- the relation after all places
pub upto-all : {X : Type 0} (P : ℕ → X → X → Type 0) (n : ℕ) (olds news : List X) → length olds ≤ n → IsUpTo P n olds news → AreEach P olds news
upto-all P n olds news all upto = record {
  length_is = upto.length_is;
  each = λ place x y in_olds in_news. upto.done place x y (let within = slice_get_within olds place x in_olds in omega arith) in_olds in_news;
}

-- a fact at `Ok`, for a result that is `Ok`
pub where_ok : {T E : Type 0} {P : Type 0} (r : Result T E) → IsOk r → OnOk r P → P
where_ok (Ok x) is p = p
where_ok (Err e) is p = absurd (cc is)

-- the lists have the same length
pub begun-all : {X Y : Type 0} (P : ℕ → X → Y → Type 0) (n : ℕ) (xs : List X) (ys : List Y) → n ≡ length xs → IsBegun P n xs ys → AreEach P xs ys
begun-all P n xs ys all begun = record { length_is = begun.length_is ∙ all; each = begun.each }

-- a list that is filled again by as many
pub refilled : {X : Type 0} (olds news : List X) → length news ≡ length olds → refill (length olds) olds news ≡ news
refilled [] [] same = refl
refilled [] (y ∷ ys) same = absurd (omega (arith, same))
refilled (x ∷ xs) [] same = absurd (omega (arith, same))
refilled (x ∷ xs) (y ∷ ys) same = ap (λ l. y ∷ l) (refilled xs ys (omega (arith, same)))
