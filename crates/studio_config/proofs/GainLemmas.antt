-- Rows of gains in a configuration, and the matrix that they make.
use Rattle.std.proofs.Common.{◌≡◌, ℕ, ◌*◌, ◌≤◌, ℤ, true, false, ◌&&◌, eqb, List, [], ◌∷◌, ◌++◌, map, length, take, drop, Some, None, Result, Ok, Err, MatchResult, IfOk, IfErr, ◌⊎◌, inl, refl, ap, sym, subst, ◌∙◌, arith, eq-eqb}
use Rattle.std.proofs.Math.Dec.{leb}
use Rattle.std.proofs.Math.Seq.{take-append_seam, drop-append_seam}
use Rattle.std.proofs.lemmas.Bool.{and_parts, le-leb}
use Rattle.std.proofs.lemmas.Bool.Decides.{nat_tests}
use Rattle.std.proofs.lemmas.List.{length-append, length-map}
use Rattle.std.proofs.lemmas.List.Folds.{list_all-append, list_all-map}
use Rattle.std.specs.List.{list_all, flat_map}
use Rattle.std.specs.Int.RustNames.{unsigned_abs}
use Rattle.gain_mix.specs.Gain.{rows_of, ins_of}
use Rattle.gain_mix.specs.Matrix.{has_range, matrix_fault_of}
use Rattle.gain_mix.specs.declared.matrix.MatrixFault.TheVariants.{Shape, Range}
use Rattle.studio_config.specs.OutputTable.{gains_fault, has_rows}

module _ {X : Type 0} (f : X → List ℤ) (ins : ℕ) where
  -- rows of one length, one after the other
  pub flat-length : (xs : List X) → list_all (λ x. eqb (length (f x)) ins) xs ≡ true → length (flat_map f xs) ≡ length xs * ins
  flat-length [] even = omega arith
  flat-length (x ∷ xs) even =
      let (here, more) = and_parts (eqb (length (f x)) ins) (list_all (λ y. eqb (length (f y)) ins) xs) even in
      let same : length (f x) ≡ ins = grind (arith, nat_tests, here) in
      let rest = flat-length xs more in
      length-append (f x) (flat_map f xs) ∙ omega arith

  -- dividing the gains of rows into rows again returns the same rows
  pub flat-rows : (xs : List X) → list_all (λ x. eqb (length (f x)) ins) xs ≡ true → rows_of ins (length xs) (flat_map f xs) ≡ map f xs
  flat-rows [] even = refl
  flat-rows (x ∷ xs) even =
      let (here, more) = and_parts (eqb (length (f x)) ins) (list_all (λ y. eqb (length (f y)) ins) xs) even in
      let same : length (f x) ≡ ins = grind (arith, nat_tests, here) in
      let first : take ins (f x ++ flat_map f xs) ≡ f x = ap (λ n. take n (f x ++ flat_map f xs)) (sym same) ∙ take-append_seam (f x) (flat_map f xs) in
      let rest : drop ins (f x ++ flat_map f xs) ≡ flat_map f xs = ap (λ n. drop n (f x ++ flat_map f xs)) (sym same) ∙ drop-append_seam (f x) (flat_map f xs) in
      rw (first, rest, flat-rows xs more)

-- the gains of rows that are in range are in range
pub flat-range : {X : Type 0} (f : X → List ℤ) (xs : List X) → list_all (λ x. has_range (f x)) xs ≡ true → has_range (flat_map f xs) ≡ true
flat-range f [] fine = refl
flat-range f (x ∷ xs) fine =
    let (here, more) = and_parts (has_range (f x)) (list_all (λ y. has_range (f y)) xs) fine in
    list_all-append (λ g. leb (unsigned_abs g) 1048576) (f x) (flat_map f xs) ∙ rw (here, flat-range f xs more)

-- the fault of the rows of gains that values have
module _ {X : Type 0} (f : X → List ℤ) (outs ins : ℕ) (xs : List X) where
  has_rows-map : has_rows outs ins (map f xs) ≡ (eqb (length xs) outs && list_all (λ x. eqb (length (f x)) ins) xs)
  has_rows-map = rw (length-map xs f, list_all-map (λ row. eqb (length row) ins) f xs)

  range-map : list_all has_range (map f xs) ≡ list_all (λ x. has_range (f x)) xs
  range-map = list_all-map has_range f xs

  pub gains_fault-shape : (eqb (length xs) outs && list_all (λ x. eqb (length (f x)) ins) xs) ≡ false → gains_fault outs ins (map f xs) ≡ Some Shape
  gains_fault-shape uneven = let shape : has_rows outs ins (map f xs) ≡ false = has_rows-map ∙ uneven in rw shape

  pub gains_fault-range : (eqb (length xs) outs && list_all (λ x. eqb (length (f x)) ins) xs) ≡ true → list_all (λ x. has_range (f x)) xs ≡ false → gains_fault outs ins (map f xs) ≡ Some Range
  gains_fault-range even wide =
      let shape : has_rows outs ins (map f xs) ≡ true = has_rows-map ∙ even in
      let range : list_all has_range (map f xs) ≡ false = range-map ∙ wide in
      rw (shape, range)

  pub gains_fault-none : (eqb (length xs) outs && list_all (λ x. eqb (length (f x)) ins) xs) ≡ true → list_all (λ x. has_range (f x)) xs ≡ true → gains_fault outs ins (map f xs) ≡ None
  gains_fault-none even fine =
      let shape : has_rows outs ins (map f xs) ≡ true = has_rows-map ∙ even in
      let range : list_all has_range (map f xs) ≡ true = range-map ∙ fine in
      rw (shape, range)

  -- gains of rows with no fault make a matrix, which has these rows
  pub flat-no_fault : 1 ≤ outs → outs ≤ 8 → 1 ≤ ins → ins ≤ 1024 → (eqb (length xs) outs && list_all (λ x. eqb (length (f x)) ins) xs) ≡ true → list_all (λ x. has_range (f x)) xs ≡ true → matrix_fault_of outs ins (flat_map f xs) ≡ None
  flat-no_fault some few wide narrow even fine =
      let (count, each) = and_parts (eqb (length xs) outs) (list_all (λ x. eqb (length (f x)) ins) xs) even in
      let same : length xs ≡ outs = grind (arith, nat_tests, count) in
      let long : length (flat_map f xs) ≡ outs * ins = flat-length f ins xs each ∙ ap (λ n. n * ins) same in
      rw (le-leb 1 outs some, le-leb outs 8 few, le-leb 1 ins wide, le-leb ins 1024 narrow, eq-eqb (length (flat_map f xs)) (outs * ins) long, flat-range f xs fine)

  pub flat-matrix : (eqb (length xs) outs && list_all (λ x. eqb (length (f x)) ins) xs) ≡ true → rows_of ins outs (flat_map f xs) ≡ map f xs
  flat-matrix even =
      let (count, each) = and_parts (eqb (length xs) outs) (list_all (λ x. eqb (length (f x)) ins) xs) even in
      let same : outs ≡ length xs = grind (arith, nat_tests, count) in
      ap (λ n. rows_of ins n (flat_map f xs)) same ∙ flat-rows f ins xs each

-- what follows for an `Ok` result and for an error from a claim about both
pub ok_from : {A E : Type 0} (x : A) (y : E) (r : Result A E) → MatchResult r (λ a. a ≡ x) (λ e. e ≡ y) → IfOk r (λ a. a ≡ x)
ok_from x y (Ok a) h = h
ok_from x y (Err e) h = tt

pub err_from : {A E : Type 0} (x : A) (y : E) (Q : E → Type 0) (r : Result A E) → MatchResult r (λ a. a ≡ x) (λ e. e ≡ y) → IfErr r (λ e. (e ≡ y) ⊎ Q e)
err_from x y Q (Ok a) h = tt
err_from x y Q (Err e) h = inl h

pub ok_as : {A E : Type 0} (x : A) (y : E) (Q : A → Type 0) (r : Result A E) → MatchResult r (λ a. a ≡ x) (λ e. e ≡ y) → Q x → IfOk r Q
ok_as x y Q (Ok a) h q = subst Q (sym h) q
ok_as x y Q (Err e) h q = tt

-- `outs` rows of `ins` gains each have that many outputs and inputs
pub even-outs : {X : Type 0} (f : X → List ℤ) (outs ins : ℕ) (xs : List X) → (eqb (length xs) outs && list_all (λ x. eqb (length (f x)) ins) xs) ≡ true → length (map f xs) ≡ outs
even-outs f outs ins xs even =
    let (count, each) = and_parts (eqb (length xs) outs) (list_all (λ x. eqb (length (f x)) ins) xs) even in
    let same : length xs ≡ outs = grind (arith, nat_tests, count) in
    length-map xs f ∙ same

pub even-ins : {X : Type 0} (f : X → List ℤ) (outs ins : ℕ) (xs : List X) → 1 ≤ outs → (eqb (length xs) outs && list_all (λ x. eqb (length (f x)) ins) xs) ≡ true → ins_of (map f xs) ≡ ins
even-ins f outs ins [] some even =
    let (count, each) = and_parts (eqb 0 outs) true even in
    let same : 0 ≡ outs = grind (arith, nat_tests, count) in
    absurd (omega arith)
even-ins f outs ins (x ∷ xs) some even =
    let (count, each) = and_parts (eqb (length (x ∷ xs)) outs) (list_all (λ y. eqb (length (f y)) ins) (x ∷ xs)) even in
    let (here, more) = and_parts (eqb (length (f x)) ins) (list_all (λ y. eqb (length (f y)) ins) xs) each in
    grind (arith, nat_tests, here)

pub err_map : {A E : Type 0} (P Q : E → Type 0) (r : Result A E) → IfErr r P → ((e : E) → P e → Q e) → IfErr r Q
err_map P Q (Ok a) h k = tt
err_map P Q (Err e) h k = k e h
