-- Lost slots next to each other, counted bin by bin.
use Rattle.std.proofs.Common.{◌≡◌, ◌<◌, ◌≤◌, ◌+◌, ◌-◌, ◌*◌, ◌/◌, ◌^◌, ℕ, zero, suc, Bool, true, false, List, ◌++◌, length, get_or, min, ℤ, pos, ◌+ℤ◌, ◌-ℤ◌, ◌≤ℤ◌, ◌<ℤ◌, refl, sym, subst, ap, arith, ◌∙◌, if◌then◌else◌}
use Rattle.std.specs.Prelude.{cond, count_by, int_le, nat_eq, nat_lt, unsigned_abs, ◌&&◌}
use Rattle.std.specs.Int.{div_ceil}
use Rattle.std.proofs.lemmas.Bool.Decides.{nat_tests}
use Rattle.std.proofs.lemmas.Grind.{div_ceil_times}
use Rattle.std.proofs.lemmas.Int.{ints}
use Rattle.std.proofs.lemmas.List.Sums.{count_by-le-length, sum_by-append}
use Rattle.std.proofs.lemmas.Nat.{mul-le}
use Rattle.std.proofs.Math.Nat.{add-mul, le-div_iff_mul-le}
use Rattle.path_merge.proofs.TallyLemmas.{count_by-first}
use Rattle.reception_chart.specs.declared.reception.axis.Axis.{Axis}
use Rattle.reception_chart.specs.declared.reception.ReceptionKind.TheVariants.{Lost}
use Rattle.reception_chart.specs.Axis.{length_between}
use Rattle.reception_chart.specs.Bins.{BinsState, HasCounted, BinEvent, bin_of, count_before, count_in, is_before, is_in, lost_events}

-- the event of a lost slot
abbrev lost_at : ℤ → BinEvent
lost_at time = record { time = time; kind = Lost }

-- the count of one event
abbrev one_if : Bool → ℕ
one_if t = cond t 1 0

pub count_of : (first : ℤ) (frames count : ℕ) → length (lost_events first frames count) ≡ count
count_of first frames zero = refl
count_of first frames (suc count) = omega (arith, count_of (first +ℤ pos frames) frames count)

-- a test that no slot passes, and one that each passes
none_pass : (test : BinEvent → Bool) (first : ℤ) (frames count : ℕ) → ((t : ℤ) → test (record { time = t; kind = Lost }) ≡ false) → count_by test (lost_events first frames count) ≡ 0
none_pass test first frames zero none = refl
none_pass test first frames (suc count) none =
    let here : one_if (test (lost_at first)) ≡ 0 = ap one_if (none first) in
    omega (arith, here, count_by-first test (lost_at first) (lost_events (first +ℤ pos frames) frames count), none_pass test (first +ℤ pos frames) frames count none)

all_pass : (test : BinEvent → Bool) (first : ℤ) (frames count : ℕ) → ((t : ℤ) → test (record { time = t; kind = Lost }) ≡ true) → count_by test (lost_events first frames count) ≡ count
all_pass test first frames zero all = refl
all_pass test first frames (suc count) all =
    let here : one_if (test (lost_at first)) ≡ 1 = ap one_if (all first) in
    omega (arith, here, count_by-first test (lost_at first) (lost_events (first +ℤ pos frames) frames count), all_pass test (first +ℤ pos frames) frames count all)

-- the time of a slot, counted from the second one
later : (first : ℤ) (frames i : ℕ) → ((first +ℤ pos frames) +ℤ pos (i * frames)) ≡ (first +ℤ pos (suc i * frames))
later first frames i =
    let one : suc i ≡ 1 + i = omega arith in
    let product : suc i * frames ≡ 1 * frames + i * frames = ap (λ n. n * frames) one ∙ add-mul 1 i frames in
    omega (arith, ints, product)

-- a test that exactly the slots before a time pass: the first q
module _ (frames : ℕ) (edge : ℤ) (test : BinEvent → Bool) (early : (t : ℤ) → t <ℤ edge → test (record { time = t; kind = Lost }) ≡ true) (late : (t : ℤ) → edge ≤ℤ t → test (record { time = t; kind = Lost }) ≡ false) where
  count_first : (first : ℤ) (count q : ℕ) → ((i : ℕ) → i < q → (first +ℤ pos (i * frames)) <ℤ edge) → ((i : ℕ) → q ≤ i → edge ≤ℤ (first +ℤ pos (i * frames))) → count_by test (lost_events first frames count) ≡ min q count
  count_first first zero q below above = omega arith
  count_first first (suc count) zero below above =
      let none : 0 * frames ≡ 0 = omega arith in
      let start : edge ≤ℤ first = omega (arith, ints, above 0 (omega arith), none) in
      let here : one_if (test (lost_at first)) ≡ 0 = ap one_if (late first start) in
      let rest = count_first (first +ℤ pos frames) count 0 (λ i lt. absurd (omega (arith, lt))) (λ i le. omega (arith, ints, above (suc i) (omega arith), later first frames i)) in
      omega (arith, here, rest, count_by-first test (lost_at first) (lost_events (first +ℤ pos frames) frames count))
  count_first first (suc count) (suc q) below above =
      let none : 0 * frames ≡ 0 = omega arith in
      let start : first <ℤ edge = omega (arith, ints, below 0 (omega arith), none) in
      let here : one_if (test (lost_at first)) ≡ 1 = ap one_if (early first start) in
      let rest = count_first (first +ℤ pos frames) count q (λ i lt. omega (arith, ints, below (suc i) (omega (arith, lt)), later first frames i)) (λ i le. omega (arith, ints, above (suc i) (omega (arith, le)), later first frames i)) in
      omega (arith, here, rest, count_by-first test (lost_at first) (lost_events (first +ℤ pos frames) frames count))

-- the distance from one time to another, on the line
distance_is : (first edge : ℤ) → (edge ≤ℤ (first +ℤ pos (length_between first edge))) × (0 < length_between first edge → edge ≡ first +ℤ pos (length_between first edge))
distance_is first edge = by_test (int_le edge first) refl
  where
    by_test : (b : Bool) → int_le edge first ≡ b → (edge ≤ℤ (first +ℤ pos (if b then 0 else unsigned_abs (edge -ℤ first)))) × (0 < (if b then 0 else unsigned_abs (edge -ℤ first)) → edge ≡ first +ℤ pos (if b then 0 else unsigned_abs (edge -ℤ first)))
    by_test true e = (grind (arith, ints, e), λ some. absurd (omega (arith, some)))
    by_test false e = let after : first <ℤ edge = grind (arith, ints, e) in (omega (arith, ints, after), λ some. omega (arith, ints, after))

-- the slots before a time, by a division
module _ (axis : Axis) (bin : ℕ) (some : 0 < bin) (inner : bin < axis.bins) where
  long : 0 < bin * axis.span
  long = let one : 1 * 1 ≤ bin * axis.span = mul-le 1 1 bin axis.span (omega (arith, some)) (omega (arith, axis.long)) in omega (arith, one)

  -- a time before the bin is in a bin before it
  early_bin : (t : ℤ) → t <ℤ (axis.first +ℤ pos (bin * axis.span)) → nat_lt (bin_of axis t) bin ≡ true
  early_bin t lt =
      let d = distance_is axis.first t in
      let short : length_between axis.first t < bin * axis.span = by_cases (length_between axis.first t) d.1 in
      let quotient : bin ≤ length_between axis.first t / axis.span → ⊥ = λ le. absurd (let all = (le-div_iff_mul-le {k = axis.span} {x = bin} {y = length_between axis.first t} axis.long).0 le in omega (arith, all, short)) in
      let less : bin_of axis t < bin = by_quotient (length_between axis.first t / axis.span) quotient in
      grind (arith, nat_tests, less)
    where
      by_cases : (n : ℕ) → (0 < n → t ≡ axis.first +ℤ pos n) → n < bin * axis.span
      by_cases zero is = omega (arith, long)
      by_cases (suc n) is = omega (arith, ints, is (omega arith), lt)

      by_quotient : (n : ℕ) → (bin ≤ n → ⊥) → min n (axis.bins - 1) < bin
      by_quotient n not_least = by_lt (nat_lt n bin) refl
        where
          by_lt : (b : Bool) → nat_lt n bin ≡ b → min n (axis.bins - 1) < bin
          by_lt true e = grind (arith, nat_tests, e)
          by_lt false e = absurd (not_least (grind (arith, nat_tests, e)))

  -- a later one is not
  late_bin : (t : ℤ) → (axis.first +ℤ pos (bin * axis.span)) ≤ℤ t → nat_lt (bin_of axis t) bin ≡ false
  late_bin t le =
      let d = distance_is axis.first t in
      let far : bin * axis.span ≤ length_between axis.first t = omega (arith, ints, d.0, le) in
      let quotient : bin ≤ length_between axis.first t / axis.span = (le-div_iff_mul-le {k = axis.span} {x = bin} {y = length_between axis.first t} axis.long).1 far in
      let least : bin ≤ bin_of axis t = omega (arith, quotient, inner) in
      grind (arith, nat_tests, least)

  pub before_inner : (first : ℤ) (frames count d : ℕ) → 0 < frames → d ≡ length_between first (axis.first +ℤ pos (bin * axis.span)) → min (div_ceil d frames) count ≡ count_before axis (lost_events first frames count) bin
  before_inner first frames count d packet is =
      let times : (d ≤ div_ceil d frames * frames) × (div_ceil d frames * frames < d + frames) = div_ceil_times d frames packet in
      let line = distance_is first (axis.first +ℤ pos (bin * axis.span)) in
      sym (count_first frames (axis.first +ℤ pos (bin * axis.span)) (is_before axis bin) early_bin late_bin first count (div_ceil d frames)
      (λ i lt.
      let up : suc i * frames ≤ div_ceil d frames * frames = mul-le (suc i) frames (div_ceil d frames) frames (omega (arith, lt)) (omega arith) in
      let more = later first frames i in
      let one : suc i * frames ≡ frames + i * frames = ap (λ n. n * frames) (let s : suc i ≡ 1 + i = omega arith in s) ∙ add-mul 1 i frames ∙ (let n : 1 * frames + i * frames ≡ frames + i * frames = omega arith in n) in
      let within : i * frames < d = omega (arith, up, one, times.1) in
      let at = line.1 (omega (arith, within, is)) in
      omega (arith, ints, at, within, is))
      (λ i le.
      let up : div_ceil d frames * frames ≤ i * frames = mul-le (div_ceil d frames) frames i frames le (omega arith) in
      omega (arith, ints, line.0, up, times.0, is)))

-- no slot is before the first bin, and all are before the end
pub before_first : (axis : Axis) (first : ℤ) (frames count bin : ℕ) → bin ≡ 0 → 0 ≡ count_before axis (lost_events first frames count) bin
before_first axis first frames count bin at_0 = sym (none_pass (is_before axis bin) first frames count (λ t. grind (arith, nat_tests, at_0)))

pub before_end : (axis : Axis) (first : ℤ) (frames count bin : ℕ) → bin ≡ axis.bins → count ≡ count_before axis (lost_events first frames count) bin
before_end axis first frames count bin all = sym (all_pass (is_before axis bin) first frames count (λ t. let within : bin_of axis t < bin = omega (arith, all, axis.some) in grind (arith, nat_tests, within)))

-- the slots in a bin are those before the next one, less those before it
in_bin : (axis : Axis) (first : ℤ) (frames count bin : ℕ) → count_by (is_in axis bin 6) (lost_events first frames count) + count_by (is_before axis bin) (lost_events first frames count) ≡ count_by (is_before axis (bin + 1)) (lost_events first frames count)
in_bin axis first frames zero bin = refl
in_bin axis first frames (suc count) bin =
    let rest = in_bin axis (first +ℤ pos frames) frames count bin in
    let one = one_more (bin_of axis first) in
    omega (
      arith,
      rest,
      one,
      count_by-first (is_in axis bin 6) (lost_at first) (lost_events (first +ℤ pos frames) frames count),
      count_by-first (is_before axis bin) (lost_at first) (lost_events (first +ℤ pos frames) frames count),
      count_by-first (is_before axis (bin + 1)) (lost_at first) (lost_events (first +ℤ pos frames) frames count),
    )
  where
    one_more : (n : ℕ) → one_if (nat_eq n bin && true) + one_if (nat_lt n bin) ≡ one_if (nat_lt n (bin + 1))
    one_more n = by_tests (nat_eq n bin) (nat_lt n bin) (nat_lt n (bin + 1)) refl refl refl
      where
        by_tests : (e l m : Bool) → nat_eq n bin ≡ e → nat_lt n bin ≡ l → nat_lt n (bin + 1) ≡ m → one_if (e && true) + one_if l ≡ one_if m
        by_tests true true m ee el em = absurd (grind (arith, nat_tests, ee, el))
        by_tests true false true ee el em = omega arith
        by_tests true false false ee el em = absurd (grind (arith, nat_tests, ee, em))
        by_tests false true true ee el em = omega arith
        by_tests false true false ee el em = absurd (grind (arith, nat_tests, el, em))
        by_tests false false true ee el em = absurd (grind (arith, nat_tests, ee, el, em))
        by_tests false false false ee el em = omega arith

pub in_bin_is : (axis : Axis) (first : ℤ) (frames count bin : ℕ) → count_in axis (lost_events first frames count) bin 6 + count_before axis (lost_events first frames count) bin ≡ count_before axis (lost_events first frames count) (bin + 1)
in_bin_is axis first frames count bin = in_bin axis first frames count bin

-- these counts have the events, and of the lost slots those in the bins before a limit
pub record IsCountedTo (axis : Axis) (counts : List ℕ) (events lost : List BinEvent) (limit : ℕ) : Type 0 where
  pub each : (bin row : ℕ) → bin < axis.bins → row < 9 → get_or counts (9 * bin + row) 0 ≡ count_in axis events bin row + (if nat_lt bin limit then count_in axis lost bin row else 0)

pub counted_none : (bins : BinsState) (events lost : List BinEvent) → HasCounted bins events → IsCountedTo bins.axis bins.counts events lost 0
counted_none bins events lost counted = record {
  each = λ bin row within few.
      let none : nat_lt bin 0 ≡ false = grind (arith, nat_tests) in
      rw none (omega (arith, counted.each bin row within few));
}

pub counted_all : (bins : BinsState) (axis : Axis) (events lost : List BinEvent) (limit : ℕ) → bins.axis ≡ axis → axis.bins ≤ limit → IsCountedTo axis bins.counts events lost limit → HasCounted bins (events ++ lost)
counted_all bins axis events lost limit same all counted = record {
  each = λ bin row within few.
      let in_axis : bin < axis.bins = subst (λ (a : Axis). bin < a.bins) same within in
      let yes : nat_lt bin limit ≡ true = grind (arith, nat_tests, in_axis, all) in
      let both : count_in axis (events ++ lost) bin row ≡ count_in axis events bin row + count_in axis lost bin row = sum_by-append (λ e. cond (is_in axis bin row e) 1 0) events lost in
      subst (λ (a : Axis). get_or bins.counts (9 * bin + row) 0 ≡ count_in a (events ++ lost) bin row) (sym same)
      (counted.each bin row in_axis few ∙ ap (λ b. count_in axis events bin row + (if b then count_in axis lost bin row else 0)) yes ∙ sym both);
}

-- no lost slot is in another row
other_row : (axis : Axis) (first : ℤ) (frames count bin row : ℕ) → nat_eq 6 row ≡ false → count_in axis (lost_events first frames count) bin row ≡ 0
other_row axis first frames count bin row other = none_pass (is_in axis bin row) first frames count (λ t. ap (λ b. nat_eq (bin_of axis t) bin && b) other ∙ no (nat_eq (bin_of axis t) bin))
  where
    no : (b : Bool) → (b && false) ≡ false
    no true = refl
    no false = refl

-- the lost slots of one bin more
pub counted_step : (axis : Axis) (counts after : List ℕ) (events : List BinEvent) (first : ℤ) (frames count bin n : ℕ) → IsCountedTo axis counts events (lost_events first frames count) bin
    → bin < axis.bins → n ≡ count_in axis (lost_events first frames count) bin 6 → length events + count < 2 ^ 64
    → get_or after (9 * bin + 6) 0 ≡ min (get_or counts (9 * bin + 6) 0 + n) (2 ^ 64 - 1)
    → ((place : ℕ) → (place ≡ 9 * bin + 6 → ⊥) → get_or after place 0 ≡ get_or counts place 0)
    → IsCountedTo axis after events (lost_events first frames count) (bin + 1)
counted_step axis counts after events first frames count bin n counted inside is short here others = record {
  each = λ b row within few. by_tests b row within few (nat_eq b bin) (nat_eq 6 row) refl refl;
}
  where
    not_yet : nat_lt bin bin ≡ false
    not_yet = grind (arith, nat_tests)

    now : nat_lt bin (bin + 1) ≡ true
    now = grind (arith, nat_tests)

    before : (row : ℕ) → row < 9 → get_or counts (9 * bin + row) 0 ≡ count_in axis events bin row + 0
    before row few = counted.each bin row inside few ∙ ap (λ b. count_in axis events bin row + (if b then count_in axis (lost_events first frames count) bin row else 0)) not_yet

    by_tests : (b row : ℕ) → b < axis.bins → row < 9 → (same lost_row : Bool) → nat_eq b bin ≡ same → nat_eq 6 row ≡ lost_row
        → get_or after (9 * b + row) 0 ≡ count_in axis events b row + (if nat_lt b (bin + 1) then count_in axis (lost_events first frames count) b row else 0)
    by_tests b row within few true true eb er =
        let b_is : bin ≡ b = grind (arith, nat_tests, eb) in
        let row_is : 6 ≡ row = grind (arith, nat_tests, er) in
        let old = before 6 (omega arith) in
        let some : count_in axis events bin 6 ≤ length events = count_by-le-length (is_in axis bin 6) events in
        let slots : count_in axis (lost_events first frames count) bin 6 ≤ length (lost_events first frames count) = count_by-le-length (is_in axis bin 6) (lost_events first frames count) in
        let fits : get_or after (9 * bin + 6) 0 ≡ count_in axis events bin 6 + count_in axis (lost_events first frames count) bin 6 = omega (arith, here, old, some, slots, count_of first frames count, short, is) in
        subst (λ i. get_or after (9 * i + row) 0 ≡ count_in axis events i row + (if nat_lt i (bin + 1) then count_in axis (lost_events first frames count) i row else 0)) b_is
        (subst (λ r. get_or after (9 * bin + r) 0 ≡ count_in axis events bin r + (if nat_lt bin (bin + 1) then count_in axis (lost_events first frames count) bin r else 0)) row_is
        (fits ∙ ap (λ t. count_in axis events bin 6 + (if t then count_in axis (lost_events first frames count) bin 6 else 0)) (sym now)))
    by_tests b row within few true false eb er =
        let b_is : bin ≡ b = grind (arith, nat_tests, eb) in
        let place : 9 * bin + row ≡ 9 * bin + 6 → ⊥ = λ e. absurd (let row_is : 6 ≡ row = omega (arith, e) in grind (arith, nat_tests, er, row_is)) in
        subst (λ i. get_or after (9 * i + row) 0 ≡ count_in axis events i row + (if nat_lt i (bin + 1) then count_in axis (lost_events first frames count) i row else 0)) b_is
        (others (9 * bin + row) place ∙ before row few ∙ ap (λ k. count_in axis events bin row + k) (sym (other_row axis first frames count bin row er)) ∙ ap (λ t. count_in axis events bin row + (if t then count_in axis (lost_events first frames count) bin row else 0)) (sym now))
    by_tests b row within few false lost_row eb er =
        let apart : (b ≡ bin → ⊥) = λ e. absurd (grind (arith, nat_tests, eb, e)) in
        let place : 9 * b + row ≡ 9 * bin + 6 → ⊥ = λ e. apart (omega (arith, e, few)) in
        let limit : nat_lt b bin ≡ nat_lt b (bin + 1) = same_limit (nat_lt b bin) (nat_lt b (bin + 1)) refl refl in
        others (9 * b + row) place ∙ counted.each b row within few ∙ ap (λ t. count_in axis events b row + (if t then count_in axis (lost_events first frames count) b row else 0)) limit
      where
        same_limit : (l m : Bool) → nat_lt b bin ≡ l → nat_lt b (bin + 1) ≡ m → l ≡ m
        same_limit true true el em = refl
        same_limit true false el em = absurd (grind (arith, nat_tests, el, em))
        same_limit false true el em = absurd (grind (arith, nat_tests, eb, el, em))
        same_limit false false el em = refl
