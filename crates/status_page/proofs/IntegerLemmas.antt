-- The integers that `parse` reads.
use Rattle.std.proofs.Common.{◌≡◌, ◌^◌, ◌<◌, ℕ, ℤ, pos, negsuc, true, false, List, [], ◌∷◌, length, Result, Ok, Err, Some, None, w64, ap, sym, ◌∙◌, inl, inr, arith, cond, drop, subst, zero, suc}
use Rattle.std.specs.Char.{is_ascii_digit}
use Rattle.std.specs.Prelude.{FitsSigned}
use Rattle.std.specs.Result.{result_ok}
use Rattle.std.specs.Str.{IsAscii, IsUtf8, all_ascii_digits}
use Rattle.std.specs.Str.Parse.{IsNumeral, ParsesSigned, digits_value, signed_digits_value, without_leading_plus, without_leading_sign}
use Rattle.std.proofs.lemmas.Bool.{and_from, and_parts, cases_Bool, cases_eq, eq-eqb, lt-ltb, ltb-true, ne_eqb}
use Rattle.std.proofs.lemmas.Bool.Decides.{nat_tests}
use Rattle.std.proofs.lemmas.Str.{IsUtf8-from_ascii}
use Rattle.std.proofs.lemmas.Str.Parse.{IsNumeralModel, numerals_by_value, tells_all_ascii_digits}
use Rattle.status_page.specs.Integers.{has_64_bits, integer_in, is_integer, is_numeral}

spelled : IsNumeralModel (λ ds. all_ascii_digits ds ≡ true) (digits_value 10)
spelled = numerals_by_value _ tells_all_ascii_digits

numeral-true : (ds : List ℕ) → IsNumeral 10 ds → is_numeral ds ≡ true
numeral-true ds h = and_from _ _ (lt-ltb 0 (length ds) h.0) (spelled.from ds h.1)

true-numeral : (ds : List ℕ) → is_numeral ds ≡ true → IsNumeral 10 ds
true-numeral ds h = let parts = and_parts _ _ h in (ltb-true 0 (length ds) parts.0, spelled.to ds parts.1)

fits-true : (z : ℤ) → FitsSigned w64 z → has_64_bits z ≡ true
fits-true (pos n) fits = lt-ltb n (2 ^ 63) fits.sfits
fits-true (negsuc n) fits = lt-ltb n (2 ^ 63) fits.sfits

true-fits : (z : ℤ) → has_64_bits z ≡ true → FitsSigned w64 z
true-fits (pos n) h = record { sfits = ltb-true n (2 ^ 63) h }
true-fits (negsuc n) h = record { sfits = ltb-true n (2 ^ 63) h }

-- the texts that `parse` accepts
abbrev Parses : List ℕ → Type 0
Parses s = IsNumeral 10 (without_leading_sign s) × FitsSigned w64 (signed_digits_value 10 s)

parses-true : (s : List ℕ) → Parses s → is_integer s ≡ true
parses-true s h = and_from _ _ (numeral-true _ h.0) (fits-true _ h.1)

true-parses : (s : List ℕ) → is_integer s ≡ true → Parses s
true-parses s h = let parts = and_parts _ _ h in (true-numeral _ parts.0, true-fits _ parts.1)

refused-false : (s : List ℕ) → (Parses s → ⊥) → is_integer s ≡ false
refused-false s not = elim (cases_Bool (is_integer s)) [ inl held ↦ absurd (not (true-parses s held)) | inr failed ↦ failed ]

-- `parse` reads exactly the integers
pub parsed-integer : {E : Type 0} (s : List ℕ) (r : Result ℤ E) → ParsesSigned w64 10 s r → result_ok r ≡ integer_in s
unfolding integer_in
parsed-integer s (Ok z) h = ap Some h.1 ∙ sym (ap (λ b. cond b (Some (signed_digits_value 10 s)) None) (parses-true s h.0))
parsed-integer s (Err e) h = sym (ap (λ b. cond b (Some (signed_digits_value 10 s)) None) (refused-false s h))

-- digits are ASCII
ascii-digits : (ds : List ℕ) → all_ascii_digits ds ≡ true → IsAscii ds
ascii-digits [] h i = omega arith
ascii-digits (d ∷ ds) h zero = let low : is_ascii_digit d ≡ true = (and_parts (is_ascii_digit d) (all_ascii_digits ds) h).0 in grind (arith, nat_tests)
ascii-digits (d ∷ ds) h (suc i) = ascii-digits ds (and_parts (is_ascii_digit d) (all_ascii_digits ds) h).1 i

-- an octet before ASCII
ascii-behind : (c : ℕ) (s : List ℕ) → c < 128 → IsAscii s → IsAscii (c ∷ s)
ascii-behind c s low rest zero = low
ascii-behind c s low rest (suc i) = rest i

ascii-signed : (s : List ℕ) → IsAscii (without_leading_sign s) → IsAscii s
ascii-signed [] h = h
ascii-signed (c ∷ s) h =
    elim (cases_eq c 45) [
      | inl minus ↦ ascii-behind c s (omega (arith, minus)) (subst (λ b. IsAscii (cond b s (without_leading_plus (c ∷ s)))) (eq-eqb c 45 minus) h)
      | inr no_minus ↦ elim (cases_eq c 43) [
        | inl plus ↦ ascii-behind c s (omega (arith, plus)) (subst (λ b. IsAscii (drop (cond b 1 0) (c ∷ s))) (eq-eqb c 43 plus) (subst (λ b. IsAscii (cond b s (without_leading_plus (c ∷ s)))) (ne_eqb c 45 no_minus) h))
        | inr no_plus ↦ subst (λ b. IsAscii (drop (cond b 1 0) (c ∷ s))) (ne_eqb c 43 no_plus) (subst (λ b. IsAscii (cond b s (without_leading_plus (c ∷ s)))) (ne_eqb c 45 no_minus) h)
      ]
    ]

integer-ascii : (s : List ℕ) → is_integer s ≡ true → IsAscii s
integer-ascii s h = ascii-signed s (ascii-digits _ (and_parts _ _ (and_parts _ _ h).0).1)

-- octets that are not UTF-8 are no integer
pub not_utf8-integer : (s : List ℕ) → (IsUtf8 s → ⊥) → integer_in s ≡ None
unfolding integer_in
not_utf8-integer s not =
    elim (cases_Bool (is_integer s)) [
      | inl held ↦ absurd (not (IsUtf8-from_ascii s (integer-ascii s held)))
      | inr failed ↦ ap (λ b. cond b (Some (signed_digits_value 10 s)) None) failed
    ]
