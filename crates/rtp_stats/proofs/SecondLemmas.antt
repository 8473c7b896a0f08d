-- The margins that are kept of a second, after one more margin, and of a path's seconds after one more offer.
use Rattle.std.proofs.Common.{◌≡◌, ◌≢◌, ◌⊎◌, inl, inr, ⊎_elim, ℕ, zero, suc, ◌+◌, ◌-◌, ◌%◌, ◌^◌, ◌<◌, ◌≤◌, max, min, Bool, true, false, List, [], ◌∷◌, ◌++◌, length, refl, sym, ap, subst, ◌∙◌, arith, if◌then◌else◌, Option, Some, None, IsSome}
use Rattle.std.specs.Prelude.{cond, ◌&&◌, ◌||◌, nat_eq, nat_lt, slice_index, slice_index_or, slice_set}
use Rattle.std.specs.List.{All, Contains}
use Rattle.std.proofs.lemmas.Bool.{and_parts, and_from, eq-eqb, eqb-false, eqb-true, ne_eqb}
use Rattle.std.proofs.lemmas.Bool.Decides.{nat_tests}
use Rattle.std.proofs.lemmas.List.{get_or-replicate, get_or-set_other, get_or-set_same, length-replicate, length-set}
use Rattle.std.proofs.lemmas.List.Elements.{All-cons, All-head, All-tail}
use Rattle.std.proofs.lemmas.List.Sums.{sum_by-cons}
use Rattle.rtp_stats.proofs.CountLemmas.{and_false}
use Rattle.rtp_stats.specs.MarginSecond.{HasSecond, HasSpares, bin_of, count_in, count_in_32_bits, empty_second, second_after, with_spare}
use Rattle.rtp_stats.specs.Margins.{is_in, second_of, spare_at, spares_in}
use Rattle.rtp_stats.specs.Offer.{Offer}
use Rattle.rtp_stats.specs.declared.tally.margins.MarginSecond.{MarginSecond}

some_is_none : (x : ℕ) → Some x ≡ None → ⊥
some_is_none x e = cc

false_is_true : false ≡ true → ⊥
false_is_true e = cc

short_more : (n : ℕ) → count_in_32_bits (count_in_32_bits n + 1) ≡ count_in_32_bits (suc n)
short_more n = omega arith

count_in-first : (bin x : ℕ) (xs : List ℕ) → count_in bin (x ∷ xs) ≡ cond (nat_eq (bin_of x) bin) 1 0 + count_in bin xs
count_in-first bin x xs = sum_by-cons {X = ℕ} (λ y. cond (nat_eq (bin_of y) bin) 1 0) x xs

-- no arrival margin yet
pub spares_none : (second : ℕ) → HasSpares [] (empty_second second)
spares_none second = record {
  count = refl;
  some = λ some. absurd (omega (arith, some));
  least = λ k d lt. absurd (omega (arith, lt));
  fresh = λ none. refl;
  one_greatest = λ some. absurd (omega (arith, some));
  greatest = λ k d lt. absurd (omega (arith, lt));
  wide = length-replicate {A = ℕ} 1024 0;
  bins = λ bin lt. get_or-replicate {A = ℕ} 1024 bin 0 0 lt;
}

module _ (x : ℕ) (xs : List ℕ) (s : MarginSecond) (has : HasSpares xs s) where
  first_or_less : (b : Bool) → (nat_eq s.count 0 || nat_lt x s.least) ≡ b → (0 < length (x ∷ xs) → Contains (x ∷ xs) (if b then x else s.least)) × All (λ y. (if b then x else s.least) ≤ y) (x ∷ xs)
  first_or_less true is = (λ some. (0, omega arith, refl), All-cons (λ y. x ≤ y) x xs (omega arith) all)
    where
      all : All (λ y. x ≤ y) xs
      all k d lt =
          let below : s.least ≤ slice_index_or xs k d = has.least k d lt in
          let count : s.count ≡ min (length xs) (2 ^ 32 - 1) = has.count in
          grind (arith, nat_tests, is, below, count, lt)
  first_or_less false is =
      let count : s.count ≡ min (length xs) (2 ^ 32 - 1) = has.count in
      let some : 0 < length xs = grind (arith, nat_tests, is, count) in
      let there = has.some some in
      let least : s.least ≤ x = grind (arith, nat_tests, is) in
      (λ more. (suc there.0, omega (arith, there.1), there.2), All-cons (λ y. s.least ≤ y) x xs least has.least)

  greatest_or_more : (b : Bool) → nat_lt s.greatest x ≡ b → (0 < length (x ∷ xs) → Contains (x ∷ xs) (max s.greatest x)) × All (λ y. y ≤ max s.greatest x) (x ∷ xs)
  greatest_or_more true is =
      let more : s.greatest < x = grind (arith, nat_tests, is) in
      let top : max s.greatest x ≡ x = omega (arith, more) in
      (λ some. (0, omega arith, sym top), All-cons (λ y. y ≤ max s.greatest x) x xs (omega (arith, top)) (λ k d lt. let below : slice_index_or xs k d ≤ s.greatest = has.greatest k d lt in omega (arith, below, top, more)))
  greatest_or_more false is =
      let no_more : x ≤ s.greatest = grind (arith, nat_tests, is) in
      let top : max s.greatest x ≡ s.greatest = omega (arith, no_more) in
      (λ some. subst (Contains (x ∷ xs)) (sym top) (there (length xs) refl no_more), All-cons (λ y. y ≤ max s.greatest x) x xs (omega (arith, top, no_more)) (λ k d lt. let below : slice_index_or xs k d ≤ s.greatest = has.greatest k d lt in omega (arith, below, top)))
    where
      there : (n : ℕ) → length xs ≡ n → x ≤ s.greatest → Contains (x ∷ xs) s.greatest
      there zero none no_more =
          let zero : s.greatest ≡ 0 = has.fresh none in
          let same : x ≡ s.greatest = omega (arith, zero, no_more) in
          (0, omega arith, same)
      there (suc n) some no_more = let found = has.one_greatest (omega (arith, some)) in (suc found.0, omega (arith, found.1), found.2)

  bin_kept : (bin : ℕ) → bin < 1024 → (b : Bool) → nat_eq (bin_of x) bin ≡ b → slice_index (slice_set s.bins (bin_of x) (count_in_32_bits (slice_index s.bins (bin_of x) + 1))) bin ≡ count_in_32_bits (cond b 1 0 + count_in bin xs)
  bin_kept bin lt true is =
      let same : bin_of x ≡ bin = eqb-true (bin_of x) bin is in
      let inside : bin_of x < length s.bins = omega (arith, same, lt, has.wide) in
      let was : slice_index s.bins (bin_of x) ≡ count_in_32_bits (count_in bin xs) = ap (slice_index s.bins) same ∙ has.bins bin lt in
      ap (slice_index (slice_set s.bins (bin_of x) (count_in_32_bits (slice_index s.bins (bin_of x) + 1)))) (sym same)
      ∙ get_or-set_same s.bins (bin_of x) (count_in_32_bits (slice_index s.bins (bin_of x) + 1)) 0 inside
      ∙ ap (λ n. count_in_32_bits (n + 1)) was
      ∙ short_more (count_in bin xs)
      ∙ ap count_in_32_bits (more (count_in bin xs))
    where
      more : (n : ℕ) → suc n ≡ 1 + n
      more n = omega arith
  bin_kept bin lt false is =
      let other : bin_of x ≢ bin = eqb-false (bin_of x) bin is in
      get_or-set_other s.bins (bin_of x) bin (count_in_32_bits (slice_index s.bins (bin_of x) + 1)) 0 (λ e. other (sym e)) ∙ has.bins bin lt ∙ ap count_in_32_bits (same (count_in bin xs))
    where
      same : (n : ℕ) → n ≡ 0 + n
      same n = omega arith

  -- one more arrival margin
  pub spares_more : HasSpares (x ∷ xs) (with_spare x s)
  spares_more =
      let tops = greatest_or_more (nat_lt s.greatest x) refl in
      let parts = first_or_less (nat_eq s.count 0 || nat_lt x s.least) refl in
      record {
        count = ap (λ n. count_in_32_bits (n + 1)) has.count ∙ short_more (length xs);
        some = parts.0;
        least = parts.1;
        fresh = λ none. absurd (omega (arith, none));
        one_greatest = tops.0;
        greatest = tops.1;
        wide = length-set s.bins (bin_of x) (count_in_32_bits (slice_index s.bins (bin_of x) + 1)) ∙ has.wide;
        bins = λ bin lt. bin_kept bin lt (nat_eq (bin_of x) bin) refl ∙ ap count_in_32_bits (sym (count_in-first bin x xs));
      }

-- the latest of a path's seconds of a parity
abbrev pub IsLatestIn : ℕ → ℕ → ℕ → Offer → Type 0
IsLatestIn path parity second o = o.path ≡ path → second_of o.now % 2 ≡ parity → IsSome o.spare → second_of o.now ≤ second

-- before a second begins, it has no arrival margin
none_yet_at : (path parity second : ℕ) (o : Offer) → second % 2 ≡ parity → (last : ℕ) → last < second → IsLatestIn path parity last o → (spare : Option ℕ) → o.spare ≡ spare → spare_at path second o spare ≡ []
none_yet_at path parity second o even last less latest None is = refl
none_yet_at path parity second o even last less latest (Some x) is = by_test (is_in path second o) refl
  where
    by_test : (b : Bool) → is_in path second o ≡ b → (if b then x ∷ [] else []) ≡ []
    by_test true here =
        let parts = and_parts (nat_eq o.path path) (nat_eq (second_of o.now) second) here in
        let at : second_of o.now ≡ second = eqb-true (second_of o.now) second parts.1 in
        let most : second_of o.now ≤ last = latest (eqb-true o.path path parts.0) (ap (λ n. n % 2) at ∙ even) (subst IsSome (sym is) refl) in
        absurd (omega (arith, most, at, less))
    by_test false here = refl

pub none_yet : (path parity second last : ℕ) (offers : List Offer) → second % 2 ≡ parity → last < second → All (IsLatestIn path parity last) offers → spares_in path second offers ≡ []
none_yet path parity second last [] even less all = refl
none_yet path parity second last (o ∷ offers) even less all =
    ap (λ xs. xs ++ spares_in path second offers) (none_yet_at path parity second o even last less (All-head (IsLatestIn path parity last) o offers all) o.spare refl)
    ∙ none_yet path parity second last offers even less (All-tail (IsLatestIn path parity last) o offers all)

latest_raised : (path parity last second : ℕ) (offers : List Offer) → last ≤ second → All (IsLatestIn path parity last) offers → All (IsLatestIn path parity second) offers
latest_raised path parity last second offers le all k d lt same even some =
    let most = all k d lt same even some in
    omega (arith, most, le)

-- no offer yet
pub second_none : (path parity : ℕ) → parity % 2 ≡ parity → HasSecond path parity [] (empty_second parity)
second_none path parity even = record {
  parity_is = even;
  begun = λ more. absurd (omega (arith, more));
  latest = λ k d lt. absurd (omega (arith, lt));
  spares = spares_none parity;
}

module _ (path parity : ℕ) (o : Offer) (offers : List Offer) (s : MarginSecond) (has : HasSecond path parity offers s) where
  -- an offer that changes nothing in the second that is kept
  kept : (second_of o.now ≢ s.second) ⊎ ((o.path ≢ path) ⊎ (o.spare ≡ None)) → IsLatestIn path parity s.second o → HasSecond path parity (o ∷ offers) s
  kept out latest = record {
    parity_is = has.parity_is;
    begun = has.begun;
    latest = All-cons (IsLatestIn path parity s.second) o offers latest has.latest;
    spares = subst (λ xs. HasSpares xs s) (sym (ap (λ xs. xs ++ spares_in path s.second offers) (nothing o.spare refl))) has.spares;
  }
    where
      nothing : (spare : Option ℕ) → o.spare ≡ spare → spare_at path s.second o spare ≡ []
      nothing None is = refl
      nothing (Some x) is = ⊎_elim
          (λ ne. ap (λ b. if b then x ∷ [] else []) (and_false (nat_eq o.path path) (nat_eq (second_of o.now) s.second) (ne_eqb (second_of o.now) s.second ne)))
          (λ other. ⊎_elim
          (λ ne. ap (λ b. if b && nat_eq (second_of o.now) s.second then x ∷ [] else []) (ne_eqb o.path path ne))
          (λ none. absurd (some_is_none x (sym is ∙ none)))
          other)
          out

  -- an offer with no arrival margin, on another path, or of the other parity
  pub second_without : o.spare ≡ None → HasSecond path parity (o ∷ offers) s
  second_without none = kept (inr (inr none)) (λ same even some. absurd (false_is_true (subst IsSome none some)))

  pub second_elsewhere : (o.path ≢ path) ⊎ (second_of o.now % 2 ≢ parity) → HasSecond path parity (o ∷ offers) s
  second_elsewhere other = ⊎_elim
      (λ ne. kept (inr (inl ne)) (λ same even some. absurd (ne same)))
      (λ odd. kept (inl (λ at. odd (ap (λ n. n % 2) at ∙ has.parity_is))) (λ same even some. absurd (odd even)))
      other

  -- an arrival margin of this path and parity
  pub second_here : (x : ℕ) → o.spare ≡ Some x → o.path ≡ path → second_of o.now % 2 ≡ parity → HasSecond path parity (o ∷ offers) (second_after (second_of o.now) x s)
  second_here x spare same even = by_tests (nat_lt s.second (second_of o.now)) (nat_eq s.second (second_of o.now)) refl refl
    where
      -- the arrival margins of the offer's second are one more
      one_more : spares_in path (second_of o.now) (o ∷ offers) ≡ x ∷ spares_in path (second_of o.now) offers
      one_more =
          ap (λ y. spare_at path (second_of o.now) o y ++ spares_in path (second_of o.now) offers) spare
          ∙ ap (λ b. (if b then x ∷ [] else []) ++ spares_in path (second_of o.now) offers) (and_from (nat_eq o.path path) (nat_eq (second_of o.now) (second_of o.now)) (eq-eqb o.path path same) (eq-eqb (second_of o.now) (second_of o.now) refl))

      some_now : (n : ℕ) → 0 < count_in_32_bits (n + 1)
      some_now n = omega arith

      now : (last : ℕ) → second_of o.now ≤ last → IsLatestIn path parity last o
      now last le p e some = le

      by_tests : (l e : Bool) → nat_lt s.second (second_of o.now) ≡ l → nat_eq s.second (second_of o.now) ≡ e → HasSecond path parity (o ∷ offers) (if l then with_spare x (empty_second (second_of o.now)) else if e then with_spare x s else s)
      by_tests true e less is =
          let later : s.second < second_of o.now = grind (arith, nat_tests, less) in
          let none : spares_in path (second_of o.now) offers ≡ [] = none_yet path parity (second_of o.now) s.second offers even later has.latest in
          record {
            parity_is = even;
            begun = λ more. some_now 0;
            latest = All-cons (IsLatestIn path parity (second_of o.now)) o offers (now (second_of o.now) (omega arith)) (latest_raised path parity s.second (second_of o.now) offers (omega (arith, later)) has.latest);
            spares = subst (λ xs. HasSpares xs (with_spare x (empty_second (second_of o.now)))) (ap (λ xs. x ∷ xs) (sym none) ∙ sym one_more) (spares_more x [] (empty_second (second_of o.now)) (spares_none (second_of o.now)));
          }
      by_tests false true less is =
          let at : s.second ≡ second_of o.now = eqb-true s.second (second_of o.now) is in
          record {
            parity_is = has.parity_is;
            begun = λ more. some_now s.count;
            latest = All-cons (IsLatestIn path parity s.second) o offers (now s.second (omega (arith, at))) has.latest;
            spares = subst (λ xs. HasSpares xs (with_spare x s)) (sym (subst (λ n. spares_in path n (o ∷ offers) ≡ x ∷ spares_in path n offers) (sym at) one_more)) (spares_more x (spares_in path s.second offers) s has.spares);
          }
      by_tests false false less is =
          let earlier : second_of o.now < s.second = grind (arith, nat_tests, less, is) in
          kept (inl (λ at. absurd (omega (arith, at, earlier)))) (now s.second (omega (arith, earlier)))
