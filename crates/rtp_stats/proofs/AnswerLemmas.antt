-- The answers for the last second.
use Rattle.std.proofs.Common.{◌≡◌, ◌≢◌, ⊎_elim, ℕ, suc, ◌+◌, ◌-◌, ◌/◌, ◌%◌, ◌^◌, ◌<◌, ◌≤◌, min, Bool, true, false, List, [], ◌∷◌, ◌++◌, length, refl, sym, ap, subst, ◌∙◌, arith, if◌then◌else◌, Option, Some, None, IsNone, ℤ, pos, negsuc, ◌≤ℤ◌}
use Rattle.std.specs.Prelude.{nat_eq, slice_index_or, IfSome, MatchOption}
use Rattle.std.proofs.lemmas.Bool.{and_parts, cases_lt, eqb-true}
use Rattle.std.proofs.lemmas.Int.{ints}
use Rattle.std.proofs.lemmas.List.Elements.{All-head, All-tail}
use Rattle.rtp_stats.proofs.MedianLemmas.{median_is}
use Rattle.rtp_stats.proofs.SecondLemmas.{none_yet}
use Rattle.rtp_stats.specs.MarginSecond.{HasSecond, HasSpares, IsSpareOf, place_of}
use Rattle.rtp_stats.specs.Margins.{IsGreatest, IsLatest, IsLeast, IsMedian, is_in, last_spares, second_of, spare_at, spares_before, spares_in}
use Rattle.rtp_stats.specs.Tally.{HasSeconds}
use Rattle.rtp_stats.specs.Offer.{Offer}
use Rattle.rtp_stats.specs.declared.arrival_margin.ArrivalMargin.{ArrivalMargin}
use Rattle.rtp_stats.specs.declared.tally.margins.MarginSecond.{MarginSecond}

-- the seconds of a clock don't go back
second_of-le : (t u : ℤ) → t ≤ℤ u → second_of t ≤ second_of u
second_of-le (pos t) (pos u) le = let less : t ≤ u = omega (arith, ints, le) in omega (arith, less)
second_of-le (pos t) (negsuc u) le = absurd (omega (arith, ints, le))
second_of-le (negsuc t) u le = omega arith

none_after_at : (path second : ℕ) (now : ℤ) (o : Offer) → second_of now < second → o.now ≤ℤ now → (spare : Option ℕ) → spare_at path second o spare ≡ []
none_after_at path second now o less le None = refl
none_after_at path second now o less le (Some x) = by_test (is_in path second o) refl
  where
    by_test : (b : Bool) → is_in path second o ≡ b → (if b then x ∷ [] else []) ≡ []
    by_test true here =
        let at : second_of o.now ≡ second = eqb-true (second_of o.now) second (and_parts (nat_eq o.path path) (nat_eq (second_of o.now) second) here).1 in
        let most = second_of-le o.now now le in
        absurd (omega (arith, at, most, less))
    by_test false here = refl

-- after the latest offer there is none
none_after : (path second : ℕ) (now : ℤ) (offers : List Offer) → second_of now < second → IsLatest now offers → spares_in path second offers ≡ []
none_after path second now [] less all = refl
none_after path second now (o ∷ offers) less all =
    ap (λ xs. xs ++ spares_in path second offers) (none_after_at path second now o less (All-head (λ x. x.now ≤ℤ now) o offers all) o.spare)
    ∙ none_after path second now offers less (All-tail (λ x. x.now ≤ℤ now) o offers all)

no_length : {X : Type 0} (xs : List X) → length xs ≡ 0 → xs ≡ []
no_length [] e = refl
no_length (x ∷ xs) e = absurd (omega (arith, e))

pub last_is : (path second : ℕ) (now : ℤ) (offers : List Offer) → second_of now ≡ suc second → last_spares path now offers ≡ spares_in path second offers
last_is path second now offers e = ap (λ n. spares_before path n offers) e

pub last_none : (path : ℕ) (now : ℤ) (offers : List Offer) → second_of now ≡ 0 → last_spares path now offers ≡ []
last_none path now offers e = ap (λ n. spares_before path n offers) e

module _ (path parity second : ℕ) (offers : List Offer) (s : MarginSecond) (has : HasSecond path parity offers s) where
  same_spares : s.second ≡ second → HasSpares (spares_in path second offers) s
  same_spares is = subst (λ n. HasSpares (spares_in path n offers) s) is has.spares

  pub least_is : (spare : ArrivalMargin) → IsSpareOf s second spare → IsLeast (spares_in path second offers) spare.least
  least_is spare of =
      let known = same_spares of.second in
      let count : s.count ≡ min (length (spares_in path second offers)) (2 ^ 32 - 1) = known.count in
      let some : 0 < length (spares_in path second offers) = omega (arith, count, of.some) in
      subst (IsLeast (spares_in path second offers)) (sym of.least) (record { one = known.some some; below_all = known.least })

  pub greatest_is : (spare : ArrivalMargin) → IsSpareOf s second spare → IsGreatest (spares_in path second offers) spare.greatest
  greatest_is spare of =
      let known = same_spares of.second in
      let count : s.count ≡ min (length (spares_in path second offers)) (2 ^ 32 - 1) = known.count in
      let some : 0 < length (spares_in path second offers) = omega (arith, count, of.some) in
      subst (IsGreatest (spares_in path second offers)) (sym of.greatest) (record { one = known.one_greatest some; above_all = known.greatest })

  pub median_of : (spare : ArrivalMargin) → IsSpareOf s second spare → length (spares_in path second offers) < 2 ^ 32 → IsMedian (spares_in path second offers) spare.median
  median_of spare of few = median_is (spares_in path second offers) s (same_spares of.second) few spare.median of.median of.middle

  -- if nothing is kept of the second before this reading, no packet came in it
  pub none_is : (now : ℤ) → second_of now ≡ suc second → second % 2 ≡ parity → IsLatest now offers → (s.second ≡ second → s.count ≡ 0) → spares_in path second offers ≡ []
  none_is now next even latest none = ⊎_elim
      (λ less. none_yet path parity second s.second offers even less has.latest)
      (λ more. ⊎_elim (later more) (at more) (cases_lt second s.second))
      (cases_lt s.second second)
    where
      at : second ≤ s.second → s.second ≤ second → spares_in path second offers ≡ []
      at low high =
          let same : s.second ≡ second = omega (arith, low, high) in
          let known = same_spares same in
          let count : s.count ≡ min (length (spares_in path second offers)) (2 ^ 32 - 1) = known.count in
          let zero : s.count ≡ 0 = none same in
          no_length (spares_in path second offers) (omega (arith, count, zero))

      later : second ≤ s.second → second < s.second → spares_in path second offers ≡ []
      later low more =
          let two : second + 1 < s.second = omega (arith, more, even, has.parity_is) in
          let after : second_of now < s.second = omega (arith, next, two) in
          let empty = none_after path s.second now offers after latest in
          let count : s.count ≡ min (length (spares_in path s.second offers)) (2 ^ 32 - 1) = has.spares.count in
          let zero : length (spares_in path s.second offers) ≡ 0 = ap length empty in
          let some : 0 < s.count = has.begun (omega (arith, two, even)) in
          absurd (omega (arith, count, zero, some))

-- the second before this reading
module _ (path second k : ℕ) (now : ℤ) (offers : List Offer) (seconds : List MarginSecond) (s : MarginSecond) (has : HasSeconds offers seconds) (is : second ≡ second_of now) (some : second ≢ 0) (place : k ≡ place_of path (second - 1)) (few : k < 8) (read : s ≡ slice_index_or seconds k s) where
  held : HasSecond path ((second - 1) % 2) offers s
  held =
      let on : k / 2 ≡ path = omega (arith, place) in
      let even : k % 2 ≡ (second - 1) % 2 = omega (arith, place) in
      subst (HasSecond path ((second - 1) % 2) offers) (sym read) (subst (λ p. HasSecond p ((second - 1) % 2) offers (slice_index_or seconds k s)) on (subst (λ p. HasSecond (k / 2) p offers (slice_index_or seconds k s)) even (has.each k s few)))

  next : second_of now ≡ suc (second - 1)
  next = omega (arith, is, some)

  pub least_answer : (r : Option ArrivalMargin) → MatchOption r (s.second ≡ second - 1 → s.count ≡ 0) (IsSpareOf s (second - 1)) → IfSome r (λ spare. IsLeast (last_spares path now offers) spare.least)
  least_answer None none = tt
  least_answer (Some spare) of = subst (λ xs. IsLeast xs spare.least) (sym (last_is path (second - 1) now offers next)) (least_is path ((second - 1) % 2) (second - 1) offers s held spare of)

  pub greatest_answer : (r : Option ArrivalMargin) → MatchOption r (s.second ≡ second - 1 → s.count ≡ 0) (IsSpareOf s (second - 1)) → IfSome r (λ spare. IsGreatest (last_spares path now offers) spare.greatest)
  greatest_answer None none = tt
  greatest_answer (Some spare) of = subst (λ xs. IsGreatest xs spare.greatest) (sym (last_is path (second - 1) now offers next)) (greatest_is path ((second - 1) % 2) (second - 1) offers s held spare of)

  pub median_answer : (r : Option ArrivalMargin) → MatchOption r (s.second ≡ second - 1 → s.count ≡ 0) (IsSpareOf s (second - 1)) → length (last_spares path now offers) < 2 ^ 32 → IfSome r (λ spare. IsMedian (last_spares path now offers) spare.median)
  median_answer None none short = tt
  median_answer (Some spare) of short =
      let same = last_is path (second - 1) now offers next in
      subst (λ xs. IsMedian xs spare.median) (sym same) (median_of path ((second - 1) % 2) (second - 1) offers s held spare of (subst (λ xs. length xs < 2 ^ 32) same short))

  pub none_answer : (r : Option ArrivalMargin) → MatchOption r (s.second ≡ second - 1 → s.count ≡ 0) (IsSpareOf s (second - 1)) → IsLatest now offers → IsNone r → last_spares path now offers ≡ []
  none_answer None none latest is_none = last_is path (second - 1) now offers next ∙ none_is path ((second - 1) % 2) (second - 1) offers s held now next refl latest none
  none_answer (Some spare) of latest is_none = absurd (no_none is_none)
    where
      no_none : true ≡ false → ⊥
      no_none e = cc

-- the answer is of the second before this reading's
pub second_answer : (second at : ℕ) (s : MarginSecond) → second ≡ at → second ≢ 0 → (r : Option ArrivalMargin) → MatchOption r (s.second ≡ second - 1 → s.count ≡ 0) (IsSpareOf s (second - 1)) → IfSome r (λ spare. spare.second + 1 ≡ at)
second_answer second at s is some None none = tt
second_answer second at s is some (Some spare) of =
    let on : spare.second ≡ second - 1 = of.at_second in
    omega (arith, on, is, some)
