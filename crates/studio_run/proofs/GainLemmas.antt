-- One gain among the rows of a matrix, and one change among those of a schedule.
use Rattle.std.proofs.Common.{◌≡◌, ℕ, zero, suc, ◌+◌, ◌*◌, ◌<◌, ℤ, Bool, true, false, cond, ◌&&◌, leb, eqb, List, [], ◌∷◌, length, take, drop, set, Option, Some, None, Ok, Err, Result, refl, sym, ap, ◌∙◌, arith, FitsSigned, to_z, of_z, w32}
use Rattle.std.specs.Prelude.{IfSome, IfNone}
use Rattle.std.specs.List.{filter}
use Rattle.std.specs.Int.RustNames.{int_lt, unsigned_abs}
use Rattle.std.proofs.lemmas.Grind.{common_steps}
use Rattle.std.proofs.lemmas.Int.{to_z-of_z}
use Rattle.std.proofs.lemmas.Bool.{and_parts}
use Rattle.std.proofs.lemmas.List.{length-set, take-set-le, drop-set-lt, drop-set-add}
use Rattle.gain_mix.specs.Gain.{ins_of, rows_of}
use Rattle.gain_mix.specs.Changes.{Changes, before, matrix_at}
use Rattle.gain_mix.specs.Matrix.{has_range, has_shape, matrix_fault_of}
use Rattle.gain_mix.specs.declared.matrix.MatrixFault.TheVariants.{Shape, Range}
use Rattle.studio_run.specs.Gains.{is_channel, is_gain, is_time, one_gain, with_gain}

-- the first elements of a list in which one element is replaced
take-set : (n : ℕ) (gains : List ℤ) (i : ℕ) (gain : ℤ) → take n (set gains i gain) ≡ set (take n gains) i gain
take-set zero gains i gain = refl
take-set (suc n) [] i gain = refl
take-set (suc n) (g ∷ gains) zero gain = refl
take-set (suc n) (g ∷ gains) (suc i) gain = ap (λ (l : List ℤ). g ∷ l) (take-set n gains i gain)

-- a gain in a row is the one at its place in the list of all gains
rows_with_gain : (ins outs : ℕ) (gains : List ℤ) (output input : ℕ) (gain : ℤ) → input < ins
    → with_gain (rows_of ins outs gains) output input gain ≡ rows_of ins outs (set gains (output * ins + input) gain)
rows_with_gain ins zero gains output input gain low = refl
rows_with_gain ins (suc outs) gains zero input gain low =
    let place : input ≡ 0 * ins + input = omega arith in
    let row : set (take ins gains) input gain ≡ take ins (set gains input gain) = sym (take-set ins gains input gain) in
    let rest : drop ins gains ≡ drop ins (set gains input gain) = sym (drop-set-lt ins gains input gain low) in
    ap (λ (l : List ℤ). l ∷ rows_of ins outs (drop ins gains)) row
    ∙ ap (λ (l : List ℤ). take ins (set gains input gain) ∷ rows_of ins outs l) rest
    ∙ ap (λ (i : ℕ). rows_of ins (suc outs) (set gains i gain)) place
rows_with_gain ins (suc outs) gains (suc output) input gain low =
    let k = output * ins + input in
    let place : ins + k ≡ suc output * ins + input = omega arith in
    let row : take ins gains ≡ take ins (set gains (ins + k) gain) = sym (take-set-le ins gains (ins + k) gain (omega arith)) in
    let rest : set (drop ins gains) k gain ≡ drop ins (set gains (ins + k) gain) = sym (drop-set-add ins gains k gain) in
    ap (λ (l : List (List ℤ)). take ins gains ∷ l) (rows_with_gain ins outs (drop ins gains) output input gain low)
    ∙ ap (λ (l : List ℤ). l ∷ rows_of ins outs (set (drop ins gains) k gain)) row
    ∙ ap (λ (l : List ℤ). take ins (set gains (ins + k) gain) ∷ rows_of ins outs l) rest
    ∙ ap (λ (i : ℕ). rows_of ins (suc outs) (set gains i gain)) place

pub gain_changed : (matrix made : List (List ℤ)) (gains written : List ℤ) (output input : ℕ) (gain : ℤ) → input < ins_of matrix
    → rows_of (ins_of matrix) (length matrix) gains ≡ matrix → written ≡ set gains (output * ins_of matrix + input) gain
    → made ≡ rows_of (ins_of matrix) (length matrix) written → made ≡ with_gain matrix output input gain
gain_changed matrix made gains written output input gain low by_row is made_is =
    made_is
    ∙ ap (rows_of (ins_of matrix) (length matrix)) is
    ∙ sym (rows_with_gain (ins_of matrix) (length matrix) gains output input gain low)
    ∙ ap (λ (rows : List (List ℤ)). with_gain rows output input gain) by_row

-- replacing a gain keeps the shape
pub length-with_gain : (rows : List (List ℤ)) (output input : ℕ) (gain : ℤ) → length (with_gain rows output input gain) ≡ length rows
length-with_gain [] output input gain = refl
length-with_gain (row ∷ rows) zero input gain = refl
length-with_gain (row ∷ rows) (suc output) input gain = ap suc (length-with_gain rows output input gain)

pub ins_of-with_gain : (rows : List (List ℤ)) (output input : ℕ) (gain : ℤ) → ins_of (with_gain rows output input gain) ≡ ins_of rows
ins_of-with_gain [] output input gain = refl
ins_of-with_gain (row ∷ rows) zero input gain = length-set row input gain
ins_of-with_gain (row ∷ rows) (suc output) input gain = refl

-- replacing a gain by one in range keeps the range
range-set : (gains : List ℤ) (place : ℕ) (gain : ℤ) → has_range gains ≡ true → is_gain gain ≡ true → has_range (set gains place gain) ≡ true
range-set [] place gain all here = refl
range-set (g ∷ gains) zero gain all here = let (first, more) = and_parts (is_gain g) (has_range gains) all in rw (here, more)
range-set (g ∷ gains) (suc place) gain all here =
    let (first, more) = and_parts (is_gain g) (has_range gains) all in
    rw (first, range-set gains place gain more here)

fault_free : (shape range : Bool) → cond shape (cond range None (Some Range)) (Some Shape) ≡ None → (shape ≡ true) × (range ≡ true)
fault_free true true none = (refl, refl)
fault_free true false none = absurd (let no : Some Range ≡ None = none in cc)
fault_free false range none = absurd (let no : Some Shape ≡ None = none in cc)

pub set-no_fault : (outs ins : ℕ) (gains written : List ℤ) (place : ℕ) (gain : ℤ) → matrix_fault_of outs ins gains ≡ None → is_gain gain ≡ true → written ≡ set gains place gain → matrix_fault_of outs ins written ≡ None
set-no_fault outs ins gains written place gain none here is =
    let parts = fault_free (has_shape outs ins gains) (has_range gains) none in
    let long : length written ≡ length gains = ap length is ∙ length-set gains place gain in
    let shape : has_shape outs ins written ≡ true =
    ap (λ (n : ℕ). leb 1 outs && leb outs 8 && leb 1 ins && leb ins 1024 && eqb n (outs * ins)) long ∙ parts.0 in
    let range : has_range written ≡ true = ap has_range is ∙ range-set gains place gain parts.1 here in
    rw (shape, range)

-- the result of a constructor that found no fault
abbrev made_as : {A F : Type 0} → A → Result A F
made_as made = Ok made

pub made_by : {A F : Type 0} (fault : Option F) (made : A) (is : A) → IfSome fault (λ f. made_as made ≡ Err f) → IfNone fault (made ≡ is) → made ≡ is
made_by None made is refused kept = kept
made_by (Some f) made is refused kept = absurd (cc)

-- the changes before a time are those that a filter keeps
pub before-filter : (at : ℤ) (later : List (ℤ × List (List ℤ))) → filter (λ change. int_lt change.0 at) later ≡ before at later
before-filter at [] = refl
before-filter at (change ∷ later) = ap (λ (l : List (ℤ × List (List ℤ))). cond (int_lt change.0 at) (change ∷ l) l) (before-filter at later)

-- a gain is a number of 32 bits
pub gain-narrow : (gain : ℤ) → is_gain gain ≡ true → to_z w32 (of_z w32 gain) ≡ gain
gain-narrow gain small = let fits : FitsSigned w32 gain = grind (arith, common_steps) in to_z-of_z w32 gain fits

-- the change that the fields of a `gain` line specify
pub one-said : (schedule : Changes) (at output input gain : ℤ) (made : List (List ℤ)) → is_time at ≡ true → is_channel (length schedule.first) output ≡ true
    → is_channel (ins_of schedule.first) input ≡ true → is_gain gain ≡ true
    → made ≡ with_gain (matrix_at schedule at) (unsigned_abs output) (unsigned_abs input) gain → one_gain schedule (at ∷ output ∷ input ∷ gain ∷ []) ≡ Ok (at, made)
one-said schedule at output input gain made time of_output of_input of_gain is =
    rw (time, of_output, of_input, of_gain) (ap (λ (m : List (List ℤ)). Ok (at, m)) (sym is))
