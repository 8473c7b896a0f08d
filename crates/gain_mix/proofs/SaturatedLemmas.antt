-- Counts of saturated samples, output by output and frame by frame.
use Rattle.std.proofs.Common.{◌≡◌, ℕ, ◌+◌, ◌-◌, ◌^◌, ◌<◌, ◌≤◌, min, Bool, ℤ, List, [], length, get_or, set, Some, refl, sym, ap, subst, ◌∙◌, arith, inl, inr, Fits, w64}
use Rattle.std.proofs.lemmas.Bool.{cases_eq}
use Rattle.std.proofs.lemmas.List.{get_or-set_same, get_or-set_other, length-set}
use Rattle.std.proofs.lemmas.Option.{slice_get-get_or}
use Rattle.std.specs.List.{slice_get}
use Rattle.std.specs.Prelude.{if◌then◌else◌}
use Rattle.gain_mix.specs.Saturated.{AreAdded, is_saturated_sample, saturated_at}

-- counts after `more` was added to the first `n` of them
pub record AreAddedTo (old new : List ℕ) (more : ℕ → ℕ) (n : ℕ) : Type 0 where
  pub len : length new ≡ length old
  pub done : (k : ℕ) → k < n → k < length old → get_or new k 0 ≡ min (get_or old k 0 + more k) (2 ^ 64 - 1)
  pub left : (k : ℕ) → n ≤ k → get_or new k 0 ≡ get_or old k 0

pub added_none : (old : List ℕ) (more : ℕ → ℕ) → AreAddedTo old old more 0
added_none old more = record { len = refl; done = λ k h g. absurd (omega (arith, h)); left = λ k h. refl }

-- one more count was added to
pub added_next : (old new : List ℕ) (more : ℕ → ℕ) (n v : ℕ) → AreAddedTo old new more n → n < length old → v ≡ min (get_or new n 0 + more n) (2 ^ 64 - 1)
    → AreAddedTo old (set new n v) more (n + 1)
added_next old new more n v a within is =
    let count = a.len in
    record {
      len = length-set new n v ∙ a.len;
      done = λ k h g.
          elim (cases_eq k n) [
            | inl e ↦
                subst (λ j. get_or (set new n v) j 0 ≡ min (get_or old j 0 + more j) (2 ^ 64 - 1)) (sym e)
                (get_or-set_same new n v 0 (omega (arith, within, count)) ∙ is ∙ ap (λ x. min (x + more n) (2 ^ 64 - 1)) (a.left n (omega arith)))
            | inr ne ↦ get_or-set_other new n k v 0 ne ∙ a.done k (omega (arith, h, ne)) g
          ];
      left = λ k h.
          elim (cases_eq k n) [
            | inl e ↦ absurd (omega (arith, h, e))
            | inr ne ↦ get_or-set_other new n k v 0 ne ∙ a.left k (omega (arith, h))
          ];
    }

-- one more count, to which nothing is added
pub added_same : (old new : List ℕ) (more : ℕ → ℕ) (n : ℕ) → AreAddedTo old new more n → more n ≡ 0 → ((k : ℕ) → Fits w64 (get_or old k 0))
    → AreAddedTo old new more (n + 1)
added_same old new more n a none fits =
    record {
      len = a.len;
      done = λ k h g.
          elim (cases_eq k n) [
            | inl e ↦
                subst (λ j. get_or new j 0 ≡ min (get_or old j 0 + more j) (2 ^ 64 - 1)) (sym e)
                (let fit = fits n in let same = a.left n (omega arith) in omega (arith, fit, same, none))
            | inr ne ↦ a.done k (omega (arith, h, ne)) g
          ];
      left = λ k h. a.left k (omega (arith, h));
    }

pub added_whole : (old new : List ℕ) (more : ℕ → ℕ) (n : ℕ) → AreAddedTo old new more n → length old ≤ n → AreAdded old new more
added_whole old new more n a whole = record { len = a.len; each = λ k h. a.done k (omega (arith, h, whole)) h }

-- nothing is added
pub adds_none : (old : List ℕ) (more : ℕ → ℕ) → ((k : ℕ) → more k ≡ 0) → ((k : ℕ) → Fits w64 (get_or old k 0)) → AreAdded old old more
adds_none old more none fits = record { len = refl; each = λ k h. let fit = fits k in let no = none k in omega (arith, fit, no) }

-- adding twice adds the sum
pub adds_both : (old mid new : List ℕ) (more next : ℕ → ℕ) → AreAdded old mid more → AreAdded mid new next → AreAdded old new (λ k. more k + next k)
adds_both old mid new more next a b =
    let count = a.len in
    record { len = b.len ∙ a.len; each = λ k h. let one = a.each k h in let two = b.each k (omega (arith, h, count)) in omega (arith, one, two) }

pub adds_same : (old new : List ℕ) (more other : ℕ → ℕ) → AreAdded old new more → ((k : ℕ) → more k ≡ other k) → AreAdded old new other
adds_same old new more other a same = record { len = a.len; each = λ k h. a.each k h ∙ ap (λ x. min (get_or old k 0 + x) (2 ^ 64 - 1)) (same k) }

-- whether an output's sample is saturated, for an output that the matrix has
pub at_output : (rows : List (List ℤ)) (values : List ℤ) (s k : ℕ) (b result : Bool) → k < length rows → result ≡ b
    → ((row : List ℤ) → slice_get rows k ≡ Some row → result ≡ is_saturated_sample s values row)
    → saturated_at rows values s k ≡ (if b then 1 else 0)
at_output rows values s k b result within is each =
    ap (λ (x : Bool). if x then 1 else 0) (sym (each (get_or rows k []) (slice_get-get_or rows k [] within)) ∙ is)
