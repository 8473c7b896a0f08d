-- The part of a record that went to its file, one write further.
use Rattle.std.proofs.Common.{◌≡◌, ◌⊎◌, inl, inr, ◌≤◌, ◌<◌, ◌+◌, ◌-◌, ℕ, Bool, true, false, nat_lt, min, List, [], ◌++◌, length, take, drop, refl, sym, ap, ◌∙◌, arith}
use Rattle.std.proofs.lemmas.Bool.Decides.{nat_tests}
use Rattle.std.specs.List.{copy_within}
use Rattle.std.proofs.lemmas.List.{drop-take, nil_from_length, length-append, length-drop, length-take-le, take-append-drop, take-append-le}
use Rattle.std.proofs.Math.Seq.{take-append-add, take-append_seam}
use borrow.Rule.Slice.PartMut.{put_mid, post_of}

-- a list after these octets were written over it from a place on
abbrev pub over : List ℕ → ℕ → List ℕ → List ℕ
over old h fresh = put_mid h (length old - h) old fresh

module _ (old fresh : List ℕ) (h t b : ℕ) (hl : h ≤ length old) (tl : t ≤ length fresh) (bl : b ≤ h + t) where
  -- the octets that are held after more were taken behind the first
  abbrev now : List ℕ
  now = over old h fresh

  first : length (take h old) ≡ h
  first = length-take-le h old hl

  long : h + t ≤ length now
  long =
      let a = length-append (take h old) (fresh ++ post_of h (length old - h) old) in
      let c = length-append fresh (post_of h (length old - h) old) in
      let d = first in
      omega (arith, a, c, d, tl)

  pub front : take (h + t) now ≡ take h old ++ take t fresh
  front =
      let rest = post_of h (length old - h) old in
      ap (λ n. take (n + t) now) (sym first)
      ∙ (take-append-add (take h old) (fresh ++ rest) t
      ∙ ap (λ l. take h old ++ l) (take-append-le t fresh rest tl))

  -- the octets behind the blocks are moved to the front
  pub kept : take (h + t - b) (copy_within now b (h + t) 0) ≡ drop b (take (h + t) now)
  kept =
      let n = h + t - b in
      let sum : b + n ≡ h + t = omega (arith, bl) in
      let back : drop b (take (h + t) now) ≡ take n (drop b now) = ap (λ k. drop b (take k now)) (sym sum) ∙ drop-take b n now in
      let count : length (take n (drop b now)) ≡ n =
      ap length (sym back) ∙ (let d = length-drop b (take (h + t) now) in let e = length-take-le (h + t) now long in omega (arith, d, e)) in
      let none : 0 + n ≡ n = omega arith in
      let moved : copy_within now b (h + t) 0 ≡ take n (drop b now) ++ drop n now = ap (λ k. take n (drop b now) ++ drop k now) none in
      ap (take n) moved ∙ (ap (λ k. take k (take n (drop b now) ++ drop n now)) (sym count) ∙ (take-append_seam (take n (drop b now)) (drop n now) ∙ sym back))

  -- so what was written and what is held now are what was held before and what was taken
  pub passed : take b now ++ take (h + t - b) (copy_within now b (h + t) 0) ≡ take h old ++ take t fresh
  passed =
      let parts = take-append-drop (h + t) now in
      let e = length-take-le (h + t) now long in
      let within : b ≤ length (take (h + t) now) = omega (arith, e, bl) in
      let written : take b now ≡ take b (take (h + t) now) = ap (take b) (sym parts) ∙ take-append-le b (take (h + t) now) (drop (h + t) now) within in
      ap (λ l. l ++ take (h + t - b) (copy_within now b (h + t) 0)) written
      ∙ (ap (λ l. take b (take (h + t) now) ++ l) kept
      ∙ (take-append-drop b (take (h + t) now) ∙ front))

-- a write to the end of a list leaves it as long as it was
pub same_length : (old fresh : List ℕ) (h : ℕ) → h ≤ length old → length fresh ≡ length old - h → length (over old h fresh) ≡ length old
same_length old fresh h hl same =
    let k = length old - h in
    let a = length-append (take h old) (fresh ++ post_of h k old) in
    let b = length-append fresh (post_of h k old) in
    let c = length-take-le h old hl in
    let d : length (post_of h k old) ≡ length (drop h old) - k = length-drop k (drop h old) in
    let e = length-drop h old in
    omega (arith, a, b, c, d, e, same, hl)

-- if nothing was taken, there was nothing, or no space
sees_by : (b : Bool) (known : List ℕ) (len held h space taken : ℕ) → nat_lt held len ≡ b → h ≡ min held len → space ≡ len - h → (taken < space → length known ≡ 0) → taken ≡ 0
    → (known ≡ []) ⊎ (len ≤ held)
sees_by true known len held h space taken less least rest most none =
    let some : held < len = grind (arith, nat_tests, less) in
    inl (nil_from_length known (most (omega (arith, some, least, rest, none))))
sees_by false known len held h space taken less least rest most none = inr (grind (arith, nat_tests, less))

pub sees_none : (known : List ℕ) (len held h space taken : ℕ) → h ≡ min held len → space ≡ len - h → (taken < space → length known ≡ 0) → taken ≡ 0 → (known ≡ []) ⊎ (len ≤ held)
sees_none known len held h space taken least rest most none = sees_by (nat_lt held len) known len held h space taken refl least rest most none
