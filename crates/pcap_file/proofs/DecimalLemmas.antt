-- A text that is parsed with no sign and no zero before a digit is the decimal text of its number.
use Rattle.std.proofs.Common.{◌≡◌, ◌≢◌, ℕ, zero, suc, ◌^◌, ◌<◌, ◌&&◌, cond, nat_lt, Bool, true, false, List, ◌∷◌, [], Option, Some, None, Ok, Result, length, get_or, sym, ◌∙◌, ap, subst, refl, arith, lit<}
use Rattle.std.specs.Prelude.{IfSome, bytes_eq}
use Rattle.std.specs.Fmt.{decimal}
use Rattle.std.specs.Str.{IsUtf8}
use Rattle.std.specs.Str.Parse.{AllDigits, digits_value, ParsesUnsigned}
use Rattle.std.proofs.lemmas.Str.Parse.{IsNumeralModel, numerals_by_value, tells_digits, parse_plain}
use Rattle.std.proofs.lemmas.Str.{IsUtf8-from_ascii}
use Rattle.std.proofs.lemmas.Fmt.{decimal-digits_value, first_decimal, decimal_digit, parse-decimal, decimal_is_IsNumeral, IsAscii-decimal}
use Rattle.std.proofs.lemmas.Bool.Decides.{nat_tests}
use Rattle.std.proofs.lemmas.Slice.Eq.{bytes_eq-Decides}
use Rattle.pcap_file.specs.Mark.{number_in}

own : IsNumeralModel (AllDigits 10) (digits_value 10)
own = numerals_by_value _ tells_digits

-- the beginning of a decimal text
pub record BeginsPlainly (s : List ℕ) : Type 0 where
  pub unsigned : get_or s 0 0 ≢ 43
  pub no_zero : get_or s 0 0 ≡ 48 → length s ≡ 1

plain_zero : BeginsPlainly (48 ∷ [])
plain_zero = record { unsigned = λ e. absurd (omega (arith, e)); no_zero = λ _. refl }

pub BeginsPlainly-decimal : (n : ℕ) → n < 2 ^ 64 → BeginsPlainly (decimal n)
BeginsPlainly-decimal zero small = subst BeginsPlainly (sym (decimal_digit 0 (lit< tt))) plain_zero
BeginsPlainly-decimal (suc n) small =
    let high : 48 < get_or (decimal (suc n)) 0 0 = first_decimal (suc n) (omega arith) small in
    record { unsigned = λ e. absurd (omega (arith, e)); no_zero = λ e. absurd (omega (arith, e)) }

pub IsUtf8-decimal : (n : ℕ) → n < 2 ^ 64 → IsUtf8 (decimal n)
IsUtf8-decimal n small = IsUtf8-from_ascii (decimal n) (IsAscii-decimal n small)

pub decimal-parsed : {E : Type 0} (s : List ℕ) (x : ℕ) (r : Result ℕ E) → ParsesUnsigned 64 10 s r → r ≡ Ok x → BeginsPlainly s → s ≡ decimal x
decimal-parsed {E} s x r parses is plain =
    let here = subst (λ r. ParsesUnsigned 64 10 s r) is parses in
    let facts = parse_plain own {E = E} 64 s (Ok x) here plain.unsigned in
    sym (decimal-digits_value own s facts.0.0 facts.0.1 plain.no_zero facts.0.2) ∙ ap decimal (sym facts.1)

pub parsed-decimal : {E : Type 0} (s : List ℕ) (n : ℕ) (r : Result ℕ E) → n < 2 ^ 64 → s ≡ decimal n → ParsesUnsigned 64 10 s r → r ≡ Ok n
parsed-decimal s n r small is parses = parse-decimal 64 n s r small small is parses

-- the number of a text is below 2^63, and the text is its decimal text
pub number_in-is : (text : List ℕ) (r : Option ℕ) → IfSome r (λ n. text ≡ decimal n) → IfSome r (λ n. n < 2 ^ 63)
    → ((n : ℕ) → n < 2 ^ 63 → text ≡ decimal n → r ≡ Some n) → r ≡ number_in text
unfolding number_in
number_in-is text (Some n) spelled small found =
    let value : digits_value 10 text ≡ n = ap (digits_value 10) spelled ∙ (decimal_is_IsNumeral n (omega (arith, small))).1 in
    let same : bytes_eq text (decimal n) ≡ true = (bytes_eq-Decides text (decimal n)).1 spelled in
    let below : nat_lt n (2 ^ 63) ≡ true = grind (arith, nat_tests, small) in
    rw (value, below, same) refl
number_in-is text None spelled small found = none (digits_value 10 text) _ _ refl refl
  where
    none : (v : ℕ) (b c : Bool) → nat_lt v (2 ^ 63) ≡ b → bytes_eq text (decimal v) ≡ c → None ≡ cond (b && c) (Some v) None
    none v false c e f = refl
    none v true false e f = refl
    none v true true e f = found v (grind (arith, nat_tests, e)) ((bytes_eq-Decides text (decimal v)).0 f)
