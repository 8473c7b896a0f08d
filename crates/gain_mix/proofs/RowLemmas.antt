-- The rows of a list of gains.
use Rattle.std.proofs.Common.{◌≡◌, ℕ, zero, suc, ◌+◌, ◌*◌, ◌<◌, ◌≤◌, ℤ, List, [], length, take, drop, get_or, arith, refl, sym, ap, subst, ◌∙◌, All, Some, None, Bool, true, false, cond, eq-eqb, ◌&&◌}
use Rattle.std.proofs.Math.Dec.{leb}
use Rattle.std.specs.List.{slice_get}
use Rattle.std.proofs.Math.Nat.{mul-le-mul_right}
use Rattle.std.proofs.lemmas.List.{drop-drop, length-take-le, length-drop}
use Rattle.std.proofs.lemmas.List.Elements.{All-nil, All-cons}
use Rattle.std.proofs.lemmas.Option.{slice_get-get_or}
use Rattle.gain_mix.proofs.SumLemmas.{product_bound}
use Rattle.std.specs.Int.RustNames.{unsigned_abs}
use Rattle.std.proofs.lemmas.Bool.{le-leb}
use Rattle.std.proofs.lemmas.List.Sums.{list_all-from_AllPass}
use Rattle.gain_mix.specs.declared.matrix.MatrixFault.TheVariants.{Shape, Range}
use Rattle.gain_mix.specs.Matrix.{matrix_fault_of, has_shape, has_range}
use Rattle.gain_mix.specs.Gain.{rows_of, ins_of, IsMatrix}

pub length-rows_of : (n m : ℕ) (gs : List ℤ) → length (rows_of n m gs) ≡ m
length-rows_of n zero gs = refl
length-rows_of n (suc m) gs = ap suc (length-rows_of n m (drop n gs))

-- a row ends within the gains
pub row_end : (k m n : ℕ) → k < m → k * n + n ≤ m * n
row_end k m n h = let p : suc k * n ≤ m * n = mul-le-mul_right n h in omega arith

pub get_or-rows_of : (n m : ℕ) (gs : List ℤ) (k : ℕ) (d : List ℤ) → k < m → get_or (rows_of n m gs) k d ≡ take n (drop (k * n) gs)
get_or-rows_of n zero gs k d h = absurd (omega arith)
get_or-rows_of n (suc m) gs zero d h = let e : 0 ≡ 0 * n = omega arith in ap (λ (i : ℕ). take n (drop i gs)) e
get_or-rows_of n (suc m) gs (suc k) d h =
    let e : n + k * n ≡ suc k * n = omega arith in
    get_or-rows_of n m (drop n gs) k d (omega arith) ∙ ap (take n) (drop-drop (k * n) n gs ∙ ap (λ (i : ℕ). drop i gs) e)

pub ins_of-rows_of : (n m : ℕ) (gs : List ℤ) → 1 ≤ m → length gs ≡ m * n → ins_of (rows_of n m gs) ≡ n
ins_of-rows_of n zero gs h e = absurd (omega arith)
ins_of-rows_of n (suc m) gs h e = length-take-le n gs (omega arith)

pub All-rows_of : (n m : ℕ) (gs : List ℤ) → length gs ≡ m * n → All (λ row. length row ≡ n) (rows_of n m gs)
All-rows_of n zero gs e = All-nil (λ row. length row ≡ n)
All-rows_of n (suc m) gs e =
    All-cons (λ row. length row ≡ n) (take n gs) (rows_of n m (drop n gs)) (length-take-le n gs (omega arith)) (All-rows_of n m (drop n gs) (omega (arith, length-drop n gs)))

both : (a b : Bool) → a ≡ true → b ≡ true → (a && b) ≡ true
both true b p q = q
both false b p q = p

-- gains that make a matrix have no fault
pub IsMatrix-no_fault : (m n : ℕ) (gs : List ℤ) → IsMatrix m n gs → matrix_fault_of m n gs ≡ None
IsMatrix-no_fault m n gs facts =
    let shape : has_shape m n gs ≡ true = both _ _ (both _ _ (both _ _ (both _ _ (le-leb 1 m facts.some_outs) (le-leb m 8 facts.few_outs)) (le-leb 1 n facts.some_ins)) (le-leb n 1024 facts.few_ins)) (eq-eqb (length gs) (m * n) facts.in_rows) in
    let range : has_range gs ≡ true = list_all-from_AllPass (λ (g : ℤ). leb (unsigned_abs g) 1048576) gs (λ k d h. le-leb (unsigned_abs (get_or gs k d)) 1048576 (facts.in_range k d h)) in
    ap (λ (b : Bool). cond b (cond (has_range gs) None (Some Range)) (Some Shape)) shape
    ∙ ap (λ (b : Bool). cond b None (Some Range)) range

-- what is known of a matrix that contracts see as these rows
module _ (n m : ℕ) (gs : List ℤ) (v : List (List ℤ)) (seen : rows_of n m gs ≡ v) (facts : IsMatrix m n gs) where
  pub seen_outs : length v ≡ m
  seen_outs = ap length (sym seen) ∙ length-rows_of n m gs

  pub seen_ins : ins_of v ≡ n
  seen_ins = ap ins_of (sym seen) ∙ ins_of-rows_of n m gs facts.some_outs facts.in_rows

  pub seen_in_each_row : All (λ row. length row ≡ n) v
  seen_in_each_row = let P : List (List ℤ) → Type 0 = λ w. All (λ row. length row ≡ n) w in subst P seen (All-rows_of n m gs facts.in_rows)

  pub seen_rows : (rs : List ℤ) → rs ≡ gs → rows_of (ins_of v) (length v) rs ≡ v
  seen_rows rs e = let a = seen_outs in let b = seen_ins in cc

  pub seen_length : (rs : List ℤ) → rs ≡ gs → length rs ≡ length v * ins_of v
  seen_length rs e = let a = seen_outs in let b = seen_ins in ap length e ∙ facts.in_rows ∙ cc

  pub row_bounds : (k : ℕ) → k < length v → (k * n + n ≤ length gs) × (k * n + n ≤ 8192) × (k < m)
  row_bounds k h =
      let a = seen_outs in
      let l : k < m = omega arith in
      let e = row_end k m n l in
      let b = product_bound 8 1024 m n facts.few_outs facts.few_ins in
      let r = facts.in_rows in
      (omega arith, omega arith, l)

  pub seen_row : (k : ℕ) (rs : List ℤ) → k < length v → rs ≡ gs → slice_get v k ≡ Some (take n (drop (k * n) rs))
  seen_row k rs h e =
      slice_get-get_or v k [] h ∙ ap Some (ap (λ w. get_or w k []) (sym seen) ∙ get_or-rows_of n m gs k [] (row_bounds k h).2 ∙ ap (λ (w : List ℤ). take n (drop (k * n) w)) (sym e))

  pub seen_no_fault : (rs : List ℤ) → rs ≡ gs → matrix_fault_of (length v) (ins_of v) rs ≡ None
  seen_no_fault rs e =
      ap (λ (o : ℕ). matrix_fault_of o (ins_of v) rs) seen_outs
      ∙ ap (λ (i : ℕ). matrix_fault_of m i rs) seen_ins
      ∙ ap (λ (g : List ℤ). matrix_fault_of m n g) e
      ∙ IsMatrix-no_fault m n gs facts
