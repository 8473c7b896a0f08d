-- The middle bin of a second holds the median of its arrival margins.
use Rattle.std.proofs.Common.{◌≡◌, ℕ, zero, suc, ◌+◌, ◌-◌, ◌*◌, ◌/◌, ◌^◌, ◌<◌, ◌≤◌, min, false, List, [], ◌∷◌, length, take, refl, sym, ap, ◌∙◌, arith}
use Rattle.std.specs.Prelude.{cond, count_by, nat_eq, nat_lt, slice_index, sum}
use Rattle.std.proofs.lemmas.Bool.Decides.{nat_tests}
use Rattle.std.proofs.lemmas.List.Sums.{count_by-le-length, sum_by-cons, sum_by_more}
use Rattle.rtp_stats.specs.MarginSecond.{HasSpares, IsMiddle, bin_of, count_in}
use Rattle.rtp_stats.specs.Margins.{IsMedian}
use Rattle.rtp_stats.specs.declared.tally.margins.MarginSecond.{MarginSecond}

-- the number of arrival margins that are less
abbrev pub less_than : ℕ → List ℕ → ℕ
less_than limit xs = count_by (λ x. nat_lt x limit) xs

less_than-first : (limit x : ℕ) (xs : List ℕ) → less_than limit (x ∷ xs) ≡ cond (nat_lt x limit) 1 0 + less_than limit xs
less_than-first limit x xs = sum_by-cons {X = ℕ} (λ y. cond (nat_lt y limit) 1 0) x xs

one_bin : (x bin : ℕ) → bin < 1023 → cond (nat_lt x (6 * (bin + 1))) 1 0 ≡ cond (nat_lt x (6 * bin)) 1 0 + cond (nat_eq (min (x / 6) 1023) bin) 1 0
one_bin x bin lt = grind (arith, nat_tests, lt)

less_than-bin : (bin : ℕ) (xs : List ℕ) → bin < 1023 → less_than (6 * (bin + 1)) xs ≡ less_than (6 * bin) xs + count_in bin xs
less_than-bin bin [] lt = refl
less_than-bin bin (x ∷ xs) lt =
    let rest = less_than-bin bin xs lt in
    let a = less_than-first (6 * (bin + 1)) x xs in
    let b = less_than-first (6 * bin) x xs in
    let c : count_in bin (x ∷ xs) ≡ cond (nat_eq (bin_of x) bin) 1 0 + count_in bin xs = sum_by-cons {X = ℕ} (λ y. cond (nat_eq (bin_of y) bin) 1 0) x xs in
    omega (arith, rest, a, b, c, one_bin x bin lt)

none_less : (xs : List ℕ) → less_than 0 xs ≡ 0
none_less [] = refl
none_less (x ∷ xs) =
    let first : nat_lt x 0 ≡ false = grind (arith, nat_tests) in
    less_than-first 0 x xs ∙ ap (λ b. cond b 1 0 + less_than 0 xs) first ∙ ap (λ n. 0 + n) (none_less xs)

module _ (xs : List ℕ) (s : MarginSecond) (has : HasSpares xs s) (few : length xs < 2 ^ 32) where
  bin_exact : (bin : ℕ) → bin < 1024 → slice_index s.bins bin ≡ count_in bin xs
  bin_exact bin lt =
      let most : count_in bin xs ≤ length xs = count_by-le-length (λ x. nat_eq (bin_of x) bin) xs in
      let shown : slice_index s.bins bin ≡ min (count_in bin xs) (2 ^ 32 - 1) = has.bins bin lt in
      omega (arith, most, shown, few)

  sum_to : (bin : ℕ) → bin ≤ 1023 → sum (take bin s.bins) ≡ less_than (6 * bin) xs
  sum_to zero le = sym (none_less xs)
  sum_to (suc bin) le =
      let lt : bin < length s.bins = omega (arith, le, has.wide) in
      let before = sum_to bin (omega (arith, le)) in
      let one : suc bin ≡ bin + 1 = omega arith in
      let more : sum (take (bin + 1) s.bins) ≡ sum (take bin s.bins) + slice_index s.bins bin = sum_by_more (λ x. x) s.bins bin 0 lt in
      let here = bin_exact bin (omega (arith, le)) in
      let next = less_than-bin bin xs (omega (arith, le)) in
      ap (λ n. sum (take n s.bins)) one ∙ more ∙ ap (λ n. n + slice_index s.bins bin) before ∙ ap (λ n. less_than (6 * bin) xs + n) here ∙ sym next ∙ ap (λ n. less_than (6 * n) xs) (sym one)

  pub median_is : (median : ℕ) → median ≡ 6 * (median / 6) → IsMiddle s.bins s.count (median / 6) → IsMedian xs median
  median_is median whole middle = record {
    whole = omega (arith, whole);
    most = omega (arith, whole, middle.in_range);
    below = omega (arith, below);
    within = λ less. within (omega (arith, whole, less));
  }
    where
      count : s.count ≡ length xs
      count =
          let shown : s.count ≡ min (length xs) (2 ^ 32 - 1) = has.count in
          omega (arith, shown, few)

      below : 2 * less_than median xs < length xs
      below =
          let sums = sum_to (median / 6) (omega (arith, middle.in_range)) in
          let same : less_than (6 * (median / 6)) xs ≡ less_than median xs = ap (λ n. less_than n xs) (sym whole) in
          omega (arith, middle.below, sums, same, count)

      within : median / 6 < 1023 → length xs ≤ 2 * less_than (median + 6) xs
      within less =
          let most = middle.within less in
          let sums = sum_to (median / 6 + 1) (omega (arith, less)) in
          let up : 6 * (median / 6 + 1) ≡ median + 6 = omega (arith, whole) in
          let same : less_than (6 * (median / 6 + 1)) xs ≡ less_than (median + 6) xs = ap (λ n. less_than n xs) up in
          omega (arith, most, sums, same, count)
