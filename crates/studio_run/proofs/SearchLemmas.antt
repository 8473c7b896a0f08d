-- The first place of an octet, by a search of bytes.
use Rattle.std.proofs.Common.{◌≡◌, inl, inr, ℕ, ◌<◌, Bool, true, false, nat_lt, cond, List, length, Option, Some, None, sym, ap, ◌∙◌, arith}
use Rattle.std.specs.Prelude.{position}
use Rattle.std.specs.List.{position_or_len}
use Rattle.std.proofs.lemmas.Bool.{cases_lt}
use Rattle.std.proofs.lemmas.Bool.Decides.{nat_tests}
use Rattle.std.proofs.lemmas.List.Sums.{passes_at_first, fails_before_first}
use Rattle.memchr.specs.Find.{IsFirstByte}

-- the place that a search of bytes returns is the first one that passes the test
pub place_found : (test : ℕ → Bool) (text : List ℕ) (found : Option ℕ) → IsFirstByte test text found → found ≡ position test text
place_found test text None nowhere = elim (cases_lt (position_or_len test text) (length text)) [
  | inl there ↦ absurd (nowhere (position_or_len test text) (omega arith) there (passes_at_first test text 0 there))
  | inr none ↦
      let past : nat_lt (position_or_len test text) (length text) ≡ false = grind (arith, nat_tests, none) in
      sym (ap (λ b. cond b (Some (position_or_len test text)) None) past)
]
place_found test text (Some k) (first, passes) =
    let k_within : k < length text = first.high in
    elim (cases_lt (position_or_len test text) k) [
      | inl before ↦
          let within : position_or_len test text < length text = omega (arith, before, k_within) in
          absurd (first.before (position_or_len test text) (omega arith) before (passes_at_first test text 0 within))
      | inr not_before ↦ elim (cases_lt k (position_or_len test text)) [
        | inl after ↦ absurd (let no : true ≡ false = sym passes ∙ fails_before_first test text k 0 after in cc)
        | inr not_after ↦
            let same : position_or_len test text ≡ k = omega (arith, not_before, not_after) in
            let within : nat_lt (position_or_len test text) (length text) ≡ true = grind (arith, nat_tests, same, k_within) in
            sym (ap (λ b. cond b (Some (position_or_len test text)) None) within ∙ ap Some same)
      ]
    ]
