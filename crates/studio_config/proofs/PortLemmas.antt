-- Tables with a row for each stream.
use Rattle.std.proofs.Common.{◌≡◌, ℕ, zero, suc, ◌-◌, ◌<◌, ◌≤◌, List, [], ◌∷◌, ◌++◌, map, length, Option, slice_set, refl, ap, sym, ◌∙◌, arith}
use Rattle.std.proofs.lemmas.List.{length-append, length-map, map-append, append_assoc}
use Rattle.toml.specs.Data.{Members}
use Rattle.studio_config.specs.Ports.{absent_row, absent_rows}
use Rattle.studio_config.specs.Config.{row_table}

length-absent : (A : Type 0) (n : ℕ) → length (absent_rows {A = A} n) ≡ n
length-absent A zero = refl
length-absent A (suc n) = ap suc (length-absent A n)

set-seam : {A : Type 0} (xs : List A) (y r : A) (ys : List A) → slice_set (xs ++ y ∷ ys) (length xs) r ≡ xs ++ r ∷ ys
set-seam [] y r ys = refl
set-seam (x ∷ xs) y r ys = ap (λ rest. x ∷ rest) (set-seam xs y r ys)

module _ {A : Type 0} (row : Members → List (Option A)) where
  -- there is a row for each of sixteen streams
  pub length-row_table : (ms : List Members) → length ms ≤ 16 → length (row_table row ms) ≡ 16
  length-row_table ms few =
      let mapped = length-map ms row in
      let left = length-absent A (16 - length ms) in
      length-append (map row ms) (absent_rows (16 - length ms)) ∙ omega arith

  -- the row of one more stream
  pub row_table-more : (ms : List Members) (m : Members) → length ms < 16 → slice_set (row_table row ms) (length ms) (row m) ≡ row_table row (ms ++ m ∷ [])
  row_table-more ms m few =
      let longer = length-append ms (m ∷ []) in
      let one_less : 16 - length ms ≡ suc (16 - length (ms ++ m ∷ [])) = omega arith in
      let rest = absent_rows {A = A} (16 - length (ms ++ m ∷ [])) in
      let rows : row_table row ms ≡ map row ms ++ absent_row ∷ rest = ap (λ n. map row ms ++ absent_rows n) one_less in
      ap (λ t. slice_set t (length ms) (row m)) rows
      ∙ ap (λ n. slice_set (map row ms ++ absent_row ∷ rest) n (row m)) (sym (length-map ms row))
      ∙ set-seam (map row ms) absent_row (row m) rest
      ∙ sym (append_assoc (map row ms) (row m ∷ []) rest)
      ∙ ap (λ t. t ++ rest) (sym (map-append row ms (m ∷ [])))
