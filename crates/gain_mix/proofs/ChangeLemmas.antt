-- The last change at or before a time.
use Rattle.std.proofs.Common.{◌≡◌, ℕ, ◌+◌, ◌<◌, Bool, true, false, cond, ℤ, List, [], ◌∷◌, length, drop, get_or, refl, sym, ap, ◌∙◌, All}
use Rattle.std.specs.Int.RustNames.{int_le}
use Rattle.std.proofs.lemmas.List.{at_drop_more}
use Rattle.std.proofs.lemmas.List.Elements.{All-head, All-tail}
use Rattle.gain_mix.specs.Gain.{ins_of}
use Rattle.gain_mix.specs.Changes.{Changes, last_change, matrix_at}
use Rattle.gain_mix.specs.Schedule.{IsChanges}

-- the last change, after one more change was considered
pub last_change_more : (items : List (ℤ × List (List ℤ))) (i : ℕ) (change : ℤ × List (List ℤ)) (rows : List (List ℤ)) (t : ℤ) → i < length items → change ≡ get_or items i change → last_change rows (drop i items) t ≡ last_change (cond (int_le change.0 t) change.1 rows) (drop (i + 1) items) t
last_change_more items i change rows t h is =
    at_drop_more (λ rest. last_change rows rest t) items i change h
    ∙ ap (λ (x : ℤ × List (List ℤ)). last_change rows (x ∷ drop (i + 1) items) t) (sym is)

-- what holds for two matrices holds for either of them
either : (F : List (List ℤ) → ℕ) (n : ℕ) (b : Bool) (x y : List (List ℤ)) → F x ≡ n → F y ≡ n → F (cond b x y) ≡ n
either F n true x y p q = p
either F n false x y p q = q

-- what all matrices share, the matrix of the last change has too
pub shared-last_change : (F : List (List ℤ) → ℕ) (n : ℕ) (rows : List (List ℤ)) (later : List (ℤ × List (List ℤ))) (t : ℤ) → F rows ≡ n → All (λ change. F change.1 ≡ n) later → F (last_change rows later t) ≡ n
shared-last_change F n rows [] t p q = p
shared-last_change F n rows (change ∷ later) t p q =
    shared-last_change F n (cond (int_le change.0 t) change.1 rows) later t (either F n (int_le change.0 t) change.1 rows (All-head (λ (c : ℤ × List (List ℤ)). F c.1 ≡ n) change later q) p) (All-tail (λ (c : ℤ × List (List ℤ)). F c.1 ≡ n) change later q)

-- the shape of the matrix in force, if contracts see these changes
module _ (first : List (List ℤ)) (later : List (ℤ × List (List ℤ))) (seen : Changes) (facts : IsChanges first later) (is : record { first = first; later = later } ≡ seen) (t : ℤ) where
  pub length-matrix_at : length (matrix_at seen t) ≡ length seen.first
  length-matrix_at =
      ap (λ (c : Changes). length (matrix_at c t)) (sym is)
      ∙ shared-last_change length (length first) first later t refl facts.outs
      ∙ ap (λ (c : Changes). length c.first) is

  pub ins_of-matrix_at : ins_of (matrix_at seen t) ≡ ins_of seen.first
  ins_of-matrix_at =
      ap (λ (c : Changes). ins_of (matrix_at c t)) (sym is)
      ∙ shared-last_change ins_of (ins_of first) first later t refl facts.ins
      ∙ ap (λ (c : Changes). ins_of c.first) is
