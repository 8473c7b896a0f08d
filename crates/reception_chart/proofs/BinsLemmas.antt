-- One thing more in its bin.
use Rattle.std.proofs.Common.{◌≡◌, ◌<◌, ◌+◌, ◌-◌, ◌*◌, ◌^◌, ℕ, Bool, true, false, List, [], ◌∷◌, ◌++◌, length, get_or, set, min, sym, subst, ap, arith, ◌∙◌, inl, inr}
use Rattle.std.specs.Prelude.{cond, count_by, nat_eq, ◌&&◌}
use Rattle.std.proofs.lemmas.Bool.Decides.{eqb_tells}
use Rattle.std.proofs.lemmas.List.{get_or-set_other, get_or-set_same, get_or_default}
use Rattle.std.proofs.lemmas.List.Sums.{count_by-le-length}
use Rattle.path_merge.proofs.TallyLemmas.{count_by-first}
use Rattle.reception_chart.specs.declared.reception.axis.Axis.{Axis}
use Rattle.reception_chart.specs.Bins.{BinsState, HasCounted, BinEvent, bin_of, count_in, is_in, row_of}

-- the count of one event
abbrev one_if : Bool → ℕ
one_if t = cond t 1 0

-- one more at the end
count_by-last : {X : Type 0} (p : X → Bool) (xs : List X) (x : X) → count_by p (xs ++ x ∷ []) ≡ count_by p xs + one_if (p x)
count_by-last p [] x = omega (arith, count_by-first p x [])
count_by-last p (y ∷ xs) x = omega (arith, count_by-first p y xs, count_by-first p y (xs ++ x ∷ []), count_by-last p xs x)

-- the place of an event's count
abbrev pub place_of : Axis → BinEvent → ℕ
place_of axis s = 9 * bin_of axis s.time + row_of s.kind

-- a count of its bin and row
here : (axis : Axis) (counts : List ℕ) (events : List BinEvent) (s : BinEvent) (n bin row : ℕ) → is_in axis bin row s ≡ true → 9 * bin + row ≡ place_of axis s
    → place_of axis s < length counts → n ≡ get_or counts (place_of axis s) 0 + 1 → get_or counts (9 * bin + row) 0 ≡ count_in axis events bin row
    → get_or (set counts (place_of axis s) n) (9 * bin + row) 0 ≡ count_in axis (events ++ s ∷ []) bin row
here axis counts events s n bin row is same within more before =
    let now : get_or (set counts (place_of axis s) n) (9 * bin + row) 0 ≡ n =
    ap (λ k. get_or (set counts (place_of axis s) n) k 0) same ∙ get_or-set_same counts (place_of axis s) n 0 within in
    let old : get_or counts (9 * bin + row) 0 ≡ get_or counts (place_of axis s) 0 = ap (λ k. get_or counts k 0) same in
    let one : one_if (is_in axis bin row s) ≡ one_if true = ap one_if is in
    let last : count_in axis (events ++ s ∷ []) bin row ≡ count_in axis events bin row + one_if (is_in axis bin row s) = count_by-last (is_in axis bin row) events s in
    omega (arith, now, old, one, last, more, before)

-- any other
elsewhere : (axis : Axis) (counts : List ℕ) (events : List BinEvent) (s : BinEvent) (n bin row : ℕ) → is_in axis bin row s ≡ false → (9 * bin + row ≡ place_of axis s → ⊥)
    → get_or counts (9 * bin + row) 0 ≡ count_in axis events bin row
    → get_or (set counts (place_of axis s) n) (9 * bin + row) 0 ≡ count_in axis (events ++ s ∷ []) bin row
elsewhere axis counts events s n bin row is other before =
    let now : get_or (set counts (place_of axis s) n) (9 * bin + row) 0 ≡ get_or counts (9 * bin + row) 0 = get_or-set_other counts (place_of axis s) (9 * bin + row) n 0 other in
    let none : one_if (is_in axis bin row s) ≡ one_if false = ap one_if is in
    let last : count_in axis (events ++ s ∷ []) bin row ≡ count_in axis events bin row + one_if (is_in axis bin row s) = count_by-last (is_in axis bin row) events s in
    omega (arith, now, none, last, before)

-- each of them
each_more : (axis : Axis) (counts : List ℕ) (events : List BinEvent) (s : BinEvent) (n bin row : ℕ) → row < 9 → row_of s.kind < 9
    → place_of axis s < length counts → n ≡ get_or counts (place_of axis s) 0 + 1 → get_or counts (9 * bin + row) 0 ≡ count_in axis events bin row
    → get_or (set counts (place_of axis s) n) (9 * bin + row) 0 ≡ count_in axis (events ++ s ∷ []) bin row
each_more axis counts events s n bin row few its within more before =
    elim (eqb_tells (bin_of axis s.time) bin) [
      | inl p ↦ elim (eqb_tells (row_of s.kind) row) [
        | inl q ↦ here axis counts events s n bin row (ap (λ t. t && nat_eq (row_of s.kind) row) p.0 ∙ q.0) (omega (arith, p.1, q.1)) within more before
        | inr q ↦ elsewhere axis counts events s n bin row (ap (λ t. t && nat_eq (row_of s.kind) row) p.0 ∙ q.0) (λ e. q.1 (omega (arith, e, p.1))) before
      ]
      | inr p ↦ elsewhere axis counts events s n bin row (ap (λ t. t && nat_eq (row_of s.kind) row) p.0) (λ e. p.1 (omega (arith, e, few, its))) before
    ]

-- fewer were counted in any place than there are
pub few_in : (bins : BinsState) (events : List BinEvent) (bin row : ℕ) → HasCounted bins events → bin < bins.axis.bins → row < 9
    → length events + 1 < 2 ^ 64 → get_or bins.counts (9 * bin + row) 0 + 1 < 2 ^ 64
few_in bins events bin row counted within few short =
    let is = counted.each bin row within few in
    let le = count_by-le-length (is_in bins.axis bin row) events in
    omega (arith, is, le, short)

-- one more
pub counted_more : (bins : BinsState) (events : List BinEvent) (s : BinEvent) (n : ℕ) → HasCounted bins events → row_of s.kind < 9
    → place_of bins.axis s < length bins.counts → n ≡ get_or bins.counts (place_of bins.axis s) 0 + 1
    → HasCounted (record { axis = bins.axis; counts = set bins.counts (place_of bins.axis s) n }) (events ++ s ∷ [])
counted_more bins events s n counted its within more = record {
  each = λ bin row b r. each_more bins.axis bins.counts events s n bin row r its within more (counted.each bin row b r);
}

-- a count that stops at the greatest value of its type
pub added : (bins : BinsState) (axis : Axis) (counts : List ℕ) (events : List BinEvent) (s : BinEvent) (bin row x n : ℕ) → record { axis = axis; counts = counts } ≡ bins
    → HasCounted bins events → length events + 1 < 2 ^ 64 → bin ≡ bin_of axis s.time → bin < axis.bins → row ≡ row_of s.kind → row < 9
    → length counts ≡ 9 * axis.bins → x ≡ get_or counts (9 * bin + row) x → n ≡ min (x + 1) (2 ^ 64 - 1)
    → HasCounted (record { axis = axis; counts = set counts (9 * bin + row) n }) (events ++ s ∷ [])
added bins axis counts events s bin row x n is counted short bin_is bin_in row_is row_in long x_at n_at =
    let state : BinsState = record { axis = axis; counts = counts } in
    let before : HasCounted state events = subst (λ b. HasCounted b events) (sym is) counted in
    let place : 9 * bin + row ≡ place_of axis s = omega (arith, bin_is, row_is) in
    let within : 9 * bin + row < length counts = omega (arith, bin_in, row_in, long) in
    let x_is : x ≡ get_or counts (9 * bin + row) 0 = x_at ∙ get_or_default counts (9 * bin + row) x 0 within in
    let few : get_or counts (9 * bin + row) 0 + 1 < 2 ^ 64 = few_in state events bin row before bin_in row_in short in
    let n_is : n ≡ get_or counts (9 * bin + row) 0 + 1 = omega (arith, n_at, x_is, few) in
    let same : get_or counts (9 * bin + row) 0 ≡ get_or counts (place_of axis s) 0 = ap (λ k. get_or counts k 0) place in
    subst (λ k. HasCounted (record { axis = axis; counts = set counts k n }) (events ++ s ∷ [])) (sym place)
    (counted_more state events s n before (omega (arith, row_is, row_in)) (omega (arith, place, within)) (omega (arith, n_is, same)))
