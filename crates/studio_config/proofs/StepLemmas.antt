-- One more of the values of a list, as a loop reads them.
use Rattle.std.proofs.Common.{◌≡◌, ℕ, ◌+◌, ◌<◌, ◌≤◌, Bool, true, List, [], ◌∷◌, ◌++◌, length, map, take, drop, get_or, Option, Some, None, ap, sym, ◌∙◌}
use Rattle.std.proofs.lemmas.List.{drop_more, drop_all, take_more, take_all, map-append}
use Rattle.std.proofs.lemmas.List.Sums.{AllPass-from_list_all}
use Rattle.std.specs.List.{list_all}
use Rattle.toml.specs.Data.{Members}
use Rattle.studio_config.specs.Rows.{first_of}
use Rattle.studio_config.specs.OutputTable.{each_fault}
use Rattle.studio_config.specs.declared.config.fault.SpecError.{SpecError}

module _ {X : Type 0} (xs : List X) (i : ℕ) where
  -- a test that every value passes
  pub passes : (test : X → Bool) (x : X) → list_all test xs ≡ true → i < length xs → x ≡ get_or xs i x → test x ≡ true
  passes test x all below is = ap test is ∙ AllPass-from_list_all test xs all i x below

  -- what is read of all values
  pub map-all : {Y : Type 0} (f : X → Y) → length xs ≤ i → map f (take i xs) ≡ map f xs
  map-all f end = ap (map f) (take_all i xs end)

  pub map-more : {Y : Type 0} (f : X → Y) (x : X) → i < length xs → x ≡ get_or xs i x → map f (take (i + 1) xs) ≡ map f (take i xs) ++ f x ∷ []
  map-more f x below is =
      ap (map f) (take_more xs i x below ∙ ap (λ v. take i xs ++ v ∷ []) (sym is))
      ∙ map-append f (take i xs) (x ∷ [])

  -- the first fault of the tables that are left
  module _ (fault : ℕ → Members → Option SpecError) (read : X → Members) where
    abbrev left : ℕ → Option SpecError
    left n = each_fault fault n (map read (drop n xs))

    at : (x : X) → i < length xs → x ≡ get_or xs i x → left i ≡ first_of (fault i (read x)) (left (i + 1))
    at x below is = ap (λ d. each_fault fault i (map read d)) (drop_more xs i x below ∙ ap (λ v. v ∷ drop (i + 1) xs) (sym is))

    pub fault-here : (x : X) (e : SpecError) → i < length xs → x ≡ get_or xs i x → fault i (read x) ≡ Some e → each_fault fault i (map read (drop i xs)) ≡ Some e
    fault-here x e below is faulty = at x below is ∙ ap (λ first. first_of first (left (i + 1))) faulty

    pub fault-later : (x : X) → i < length xs → x ≡ get_or xs i x → fault i (read x) ≡ None → each_fault fault i (map read (drop i xs)) ≡ each_fault fault (i + 1) (map read (drop (i + 1) xs))
    fault-later x below is none = at x below is ∙ ap (λ first. first_of first (left (i + 1))) none

    pub fault-end : length xs ≤ i → each_fault fault i (map read (drop i xs)) ≡ None
    fault-end end = ap (λ d. each_fault fault i (map read d)) (drop_all i xs end)
