-- The packets in a list sorted by number, and those that are left after a change of it.
use Rattle.rtp_stream.specs.Grid.{first_with}
use Rattle.std.proofs.Common.{◌≡◌, ℕ, zero, suc, ◌+◌, ◌<◌, ◌≤◌, List, [], ◌∷◌, ◌++◌, length, take, drop, get_or, if◌then◌else◌, Some, None, IsSome, refl, ap, subst, ◌∙◌, arith}
use Rattle.std.specs.Prelude.{nat_eq, true, false, insert}
use Rattle.std.proofs.lemmas.List.Edits.{length-insert}
use Rattle.std.proofs.lemmas.List.{take-append-drop}
use Rattle.std.proofs.lemmas.Bool.Decides.{nat_tests}
use Rattle.std.specs.Ordering.{nat_cmp}
use Rattle.std.specs.Cmp.{nat_cmp_total}
use Rattle.std.specs.FinMap.{get, find, from_entries, get-from_entries}
use Rattle.rtp_stream.specs.declared.packet.Packet.{Packet}
use Rattle.path_merge.specs.SortedWindow.{IsWithin, AllBelow, IsFrom, IsGapAt, starts_with_number}

-- there are no more packets than numbers
pub length_within : (low high : ℕ) (l : List (ℕ × Packet)) → IsWithin low high l → low ≤ high → length l + low ≤ high
length_within low high [] w le = omega arith
length_within low high ((n, p) ∷ l) w le = omega (arith, length_within (suc n) high l w.2 (omega (arith, w.1)), w.0)

-- a wider range
pub widened : (low low' high : ℕ) (l : List (ℕ × Packet)) → IsWithin low high l → low' ≤ low → IsWithin low' high l
widened low low' high [] w le = tt
widened low low' high ((n, p) ∷ l) w le = (omega (arith, w.0), w.1, w.2)

pub higher : (low high high' : ℕ) (l : List (ℕ × Packet)) → IsWithin low high l → high ≤ high' → IsWithin low high' l
higher low high high' [] w le = tt
higher low high high' ((n, p) ∷ l) w le = (w.0, omega (arith, w.1), higher (suc n) high high' l w.2 le)

-- a packet that is found has a number in the range
pub found_within : (low high n : ℕ) (l : List (ℕ × Packet)) → IsWithin low high l → IsSome (first_with n l) → (low ≤ n) × (n < high)
found_within low high n [] w some = grind arith
found_within low high n ((m, p) ∷ l) w some = grind (arith, nat_tests, w.0, w.1, found_within (suc m) high n l w.2)

pub none_below : (low high n : ℕ) (l : List (ℕ × Packet)) → IsWithin low high l → n < low → first_with n l ≡ None
none_below low high n [] w lt = refl
none_below low high n ((m, p) ∷ l) w lt = grind (arith, nat_tests, w.0, none_below (suc m) high n l w.2)

-- one more
pub AllBelow-push : (n m : ℕ) (p : Packet) (l : List (ℕ × Packet)) → AllBelow n l → m < n → AllBelow n (l ++ (m, p) ∷ [])
AllBelow-push n m p [] w lt = (lt, tt)
AllBelow-push n m p ((k, q) ∷ l) w lt = (w.0, AllBelow-push n m p l w.1 lt)

-- the place of a number parts the list
pub parted : (low high n i : ℕ) (l : List (ℕ × Packet)) → IsWithin low high l → low ≤ n → AllBelow n (take i l) → IsFrom n (drop i l) → IsWithin low n (take i l) × IsWithin n high (drop i l)
parted low high n zero [] w le below from = (tt, tt)
parted low high n (suc i) [] w le below from = (tt, tt)
parted low high n zero ((m, p) ∷ l) w le below from = (tt, (from, w.1, w.2))
parted low high n (suc i) ((m, p) ∷ l) w le below from =
    let rest = parted (suc m) high n i l w.2 (omega (arith, below.0)) below.1 from in
    ((w.0, below.0, rest.0), rest.1)

-- a packet in its place
pub placed : (low high n : ℕ) (p : Packet) (front back : List (ℕ × Packet)) → IsWithin low n front → IsWithin (suc n) high back → low ≤ n → n < high → IsWithin low high (front ++ (n, p) ∷ back)
placed low high n p [] back f b le lt = (le, lt, b)
placed low high n p ((m, q) ∷ front) back f b le lt = (f.0, omega (arith, f.1), placed (suc m) high n p front back f.2 b (omega (arith, f.1)) lt)

pub found_placed : (n k : ℕ) (p : Packet) (front back : List (ℕ × Packet)) → AllBelow n front → first_with k (front ++ (n, p) ∷ back) ≡ (if nat_eq k n then Some p else first_with k (front ++ back))
found_placed n k p [] back f = grind (arith, nat_tests)
found_placed n k p ((m, q) ∷ front) back f = grind (arith, nat_tests, f.0, found_placed n k p front back f.1)

-- the number of the packet at the place is found there
pub found_at : (n : ℕ) (p : Packet) (front back : List (ℕ × Packet)) → AllBelow n front → first_with n (front ++ (n, p) ∷ back) ≡ Some p
found_at n p front back f = grind (arith, nat_tests, found_placed n n p front back f)

-- the packet at a number's place is the first with this number
pub found_by_place : (n i : ℕ) (e : ℕ × Packet) (l : List (ℕ × Packet)) → i < length l → AllBelow n (take i l) → e ≡ get_or l i e → e.0 ≡ n → first_with n l ≡ Some e.1
found_by_place n zero e [] lt f is num = absurd (omega arith)
found_by_place n (suc i) e [] lt f is num = absurd (omega arith)
found_by_place n zero e (x ∷ l) lt f is num = grind (arith, nat_tests)
found_by_place n (suc i) e (x ∷ l) lt f is num = grind (arith, nat_tests, f.0, found_by_place n i e l (omega arith) f.1 is num)

-- a number with a gap is not there
pub none_at_gap : (low high n i : ℕ) (l : List (ℕ × Packet)) → IsWithin low high l → AllBelow n (take i l) → IsFrom (suc n) (drop i l) → first_with n l ≡ None
none_at_gap low high n i [] w b f = refl
none_at_gap low high n zero ((m, p) ∷ l) w b f = none_below (suc n) high n ((m, p) ∷ l) (f, w.1, w.2) (omega arith)
none_at_gap low high n (suc i) ((m, p) ∷ l) w b f = grind (arith, nat_tests, b.0, none_at_gap (suc m) high n i l w.2 b.1 f)

pub parted_gap : (low high n i : ℕ) (l : List (ℕ × Packet)) → IsWithin low high l → low ≤ n → AllBelow n (take i l) → IsFrom (suc n) (drop i l) → IsWithin low n (take i l) × IsWithin (suc n) high (drop i l)
parted_gap low high n zero [] w le below from = (tt, tt)
parted_gap low high n (suc i) [] w le below from = (tt, tt)
parted_gap low high n zero ((m, p) ∷ l) w le below from = (tt, (from, w.1, w.2))
parted_gap low high n (suc i) ((m, p) ∷ l) w le below from =
    let rest = parted_gap (suc m) high n i l w.2 (omega (arith, below.0)) below.1 from in
    ((w.0, below.0, rest.0), rest.1)

-- the greatest number is the last
pub last_is_greatest : (low high i : ℕ) (e : ℕ × Packet) (l : List (ℕ × Packet)) → IsWithin low high l → i + 1 ≡ length l → e ≡ get_or l i e → (low ≤ e.0) × (e.0 < high) × (first_with e.0 l ≡ Some e.1) × ((n : ℕ) → IsSome (first_with n l) → n ≤ e.0)
last_is_greatest low high i e [] w len is = absurd (omega arith)
last_is_greatest low high zero e (x ∷ []) w len is = (grind (arith, w.0), grind (arith, w.1), grind (arith, nat_tests), λ n some. grind (arith, nat_tests))
last_is_greatest low high zero e (x ∷ (y ∷ l)) w len is = absurd (omega arith)
last_is_greatest low high (suc i) e (x ∷ l) w len is =
    let r = last_is_greatest (suc x.0) high i e l w.2 (omega arith) is in
    (grind (arith, w.0, r.0), r.1, grind (arith, nat_tests, r.0, r.2), λ n some. grind (arith, nat_tests, r.0, r.3 n))

-- taking the first
pub front_taken : (base high : ℕ) (e : ℕ × Packet) (l : List (ℕ × Packet)) → IsWithin base high l → starts_with_number base l ≡ true → e ≡ get_or l 0 e → (first_with base l ≡ Some e.1) × IsWithin (suc base) high (drop 1 l) × ((n : ℕ) → first_with n (drop 1 l) ≡ (if nat_eq n base then None else first_with n l)) × (0 < length l)
front_taken base high e [] w num is = cc
front_taken base high e ((m, p) ∷ l) w num is =
    let same : m ≡ base = grind (arith, nat_tests) in
    let rest : IsWithin (suc base) high l = subst (λ k. IsWithin (suc k) high l) same w.2 in
    (grind (arith, nat_tests), rest, (λ n. grind (arith, nat_tests, none_below (suc base) high n l rest)), omega arith)

-- if the first packet does not have the base's number, no packet has it
pub front_absent : (base high : ℕ) (l : List (ℕ × Packet)) → IsWithin base high l → starts_with_number base l ≡ false → (first_with base l ≡ None) × IsWithin (suc base) high l × ((n : ℕ) → first_with n l ≡ (if nat_eq n base then None else first_with n l))
front_absent base high [] w other = (refl, tt, λ n. grind (arith, nat_tests))
front_absent base high ((m, p) ∷ l) w other =
    let more : base < m = grind (arith, nat_tests, w.0) in
    let rest : IsWithin (suc base) high ((m, p) ∷ l) = (more, w.1, w.2) in
    let none = none_below (suc base) high base ((m, p) ∷ l) rest (omega arith) in
    (none, rest, λ n. grind (arith, nat_tests))

-- nothing is found only in an empty list
pub none_so_empty : (l : List (ℕ × Packet)) (low high : ℕ) → ((n : ℕ) → first_with n l ≡ None) → IsWithin low high l
none_so_empty [] low high none = tt
none_so_empty ((m, p) ∷ l) low high none = absurd (grind (arith, nat_tests, none m))

-- a packet put in its gap
pub record IsPut (low high n : ℕ) (p : Packet) (old new : List (ℕ × Packet)) : Type 0 where
  pub within : IsWithin low high new
  pub space : length old + low < high
  pub absent : first_with n old ≡ None
  pub held : (k : ℕ) → first_with k new ≡ (if nat_eq k n then Some p else first_with k old)

pub put_in_gap : (low high n i : ℕ) (p : Packet) (l : List (ℕ × Packet)) → IsWithin low high l → low ≤ n → n < high → IsGapAt l n i → IsPut low high n p l (insert l i (n, p))
put_in_gap low high n i p l w le lt gap =
    let parts = parted_gap low high n i l w le gap.smaller_before gap.greater_after in
    let new = placed low high n p (take i l) (drop i l) parts.0 parts.1 le lt in
    let len = length_within low high (insert l i (n, p)) new (omega arith) in
    record {
      within = new;
      space = omega (arith, length-insert l i (n, p) gap.in_range, len);
      absent = none_at_gap low high n i l w gap.smaller_before gap.greater_after;
      held = λ k. found_placed n k p (take i l) (drop i l) gap.smaller_before ∙ ap (λ m. if nat_eq k n then Some p else first_with k m) (take-append-drop i l);
    }

-- the map of a list finds the first
find_first : (l : List (ℕ × Packet)) (n : ℕ) → find nat_cmp n l ≡ first_with n l
find_first [] n = refl
find_first ((m, p) ∷ l) n = grind (arith, nat_tests, find_first l n)

pub get_entries : (l : List (ℕ × Packet)) (n : ℕ) → get (from_entries {R = nat_cmp} l) n ≡ first_with n l
get_entries l n = get-from_entries nat_cmp_total l n ∙ find_first l n

pub none_in_empty : (l : List (ℕ × Packet)) (n : ℕ) → length l ≤ 0 → first_with n l ≡ None
none_in_empty [] n h = refl
none_in_empty (x ∷ l) n h = absurd (omega arith)
