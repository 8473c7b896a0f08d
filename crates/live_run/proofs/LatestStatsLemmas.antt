-- Receivers that are asked one after the other.
use Rattle.std.proofs.Common.{◌≡◌, inl, inr, ℕ, ◌+◌, ◌<◌, ◌≤◌, min, List, length, set, slice_get, Option, Some, sym, subst, ◌∙◌, arith}
use Rattle.std.proofs.lemmas.Grind.{common_steps}
use Rattle.std.proofs.lemmas.Option.{slice_get_within}
use Rattle.live_status.proofs.Each.{below_next, get-set, get-set_else}
use Rattle.live_run.specs.LatestStats.{AreRefreshed}

-- the receivers below a place refreshed theirs, and the others were not asked
pub record AreRefreshedTo {W T : Type 0} (Refreshes : W → W → Option T → Option T → Type 0) (n : ℕ) (olds news : List W) (befores lasts : List (Option T)) : Type 0 where
  pub receivers_are : length news ≡ length olds
  pub places_are : length lasts ≡ length befores
  pub done : (place : ℕ) (old new : W) (before last : Option T) → place < n → slice_get olds place ≡ Some old → slice_get news place ≡ Some new
      → slice_get befores place ≡ Some before → slice_get lasts place ≡ Some last → Refreshes old new before last
  pub receivers_left : (place : ℕ) → n ≤ place → slice_get news place ≡ slice_get olds place
  pub places_left : (place : ℕ) → n ≤ place → slice_get lasts place ≡ slice_get befores place

-- the receiver at this place refreshed its own
pub refreshed-next : {W T : Type 0} (Refreshes : W → W → Option T → Option T → Type 0) (n : ℕ) (olds news : List W) (befores lasts : List (Option T)) (old new : W) (before last : Option T)
    → AreRefreshedTo Refreshes n olds news befores lasts → n < length news → n < length lasts → slice_get olds n ≡ Some old → slice_get befores n ≡ Some before → Refreshes old new before last
    → AreRefreshedTo Refreshes (n + 1) olds (set news n new) befores (set lasts n last)
refreshed-next {W} {T} Refreshes n olds news befores lasts old new before last to within space at_old at_before refreshes = record {
  receivers_are = (let same = to.receivers_are in grind (arith, common_steps));
  places_are = (let same = to.places_are in grind (arith, common_steps));
  done = λ place x y b l below in_olds in_news in_befores in_lasts.
      elim (below_next place n below) [
        | inl less ↦ to.done place x y b l less in_olds (sym (get-set_else news n place new (omega arith)) ∙ in_news) in_befores (sym (get-set_else lasts n place last (omega arith)) ∙ in_lasts)
        | inr same ↦
            let is_old : old ≡ x = cc (at_old, in_olds, same) in
            let is_new : new ≡ y = cc (get-set news n new within, in_news, same) in
            let is_before : before ≡ b = cc (at_before, in_befores, same) in
            let is_last : last ≡ l = cc (get-set lasts n last space, in_lasts, same) in
            subst (λ (v : W). Refreshes v y b l) is_old (subst (λ (v : W). Refreshes old v b l) is_new (subst (λ (v : Option T). Refreshes old new v l) is_before (subst (λ (v : Option T). Refreshes old new before v) is_last refreshes)))
      ];
  receivers_left = λ place above. get-set_else news n place new (omega arith) ∙ to.receivers_left place (omega arith);
  places_left = λ place above. get-set_else lasts n place last (omega arith) ∙ to.places_left place (omega arith);
}

-- a place that is within both lists is below the shorter one's length
below_shorter : (place a b n : ℕ) → place < a → place < b → min a b ≤ n → place < n
below_shorter place a b n of_a of_b all = grind arith

-- if all receivers that have a place were asked
pub refreshed-all : {W T : Type 0} (Refreshes : W → W → Option T → Option T → Type 0) (n : ℕ) (olds news : List W) (befores lasts : List (Option T))
    → min (length olds) (length befores) ≤ n → AreRefreshedTo Refreshes n olds news befores lasts → AreRefreshed Refreshes olds news befores lasts
refreshed-all Refreshes n olds news befores lasts all to = record {
  receivers_are = to.receivers_are;
  places_are = to.places_are;
  each = λ place x y b l in_olds in_news in_befores in_lasts.
      to.done place x y b l (below_shorter place (length olds) (length befores) n (slice_get_within olds place x in_olds) (slice_get_within befores place b in_befores) all) in_olds in_news in_befores in_lasts;
}
