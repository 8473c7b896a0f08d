-- The whole numbers of fields, one after the other.
use Rattle.std.proofs.Common.{◌≡◌, ◌≢◌, ◌⊎◌, inl, inr, ℤ, pos, ℕ, suc, ◌+◌, true, false, eqb, eq-eqb, arith, List, [], ◌∷◌, ◌++◌, length, drop, get_or, Option, Some, None, Ok, Err, refl, ap, ◌∙◌, append_assoc, sym}
use Rattle.std.specs.Borrow.{Bor}
use Rattle.std.specs.Prelude.{neg_ℤ}
use Rattle.std.proofs.lemmas.Bool.{eqb-true, ne_eqb}
use Rattle.studio_run.specs.Trace.{number_of}
use Rattle.studio_run.specs.GainsNumbers.{below_zero, from_zero, integer_of, integers_of, numbers_of, with_integer}
use Rattle.studio_run.specs.declared.gains.fault.GainsFaultKind.TheVariants.{Fields, Number}

-- numbers that were read, and those that the fields after them spell
abbrev pub behind : List ℤ → Option (List ℤ) → Option (List ℤ)
behind read None = None
behind read (Some more) = Some (read ++ more)

pub behind-number : (read : List ℤ) (number : ℤ) (more : Option (List ℤ)) → behind read (with_integer (Some number) more) ≡ behind (read ++ number ∷ []) more
behind-number read number None = refl
behind-number read number (Some more) = ap Some (sym (append_assoc read (number ∷ []) more))

pub behind-none : (more : Option (List ℤ)) → more ≡ behind [] more
behind-none None = refl
behind-none (Some more) = refl

-- the number of octets that are left of a text, plus one if there is a text
abbrev pub octets_left : Option (Bor (List ℕ)) → ℕ
octets_left None = 0
octets_left (Some text) = length text.now + 1

-- a field with and without a minus
pub not_minus : (field : List ℕ) → (eqb (length field) 0 ≡ true) ⊎ (get_or field 0 0 ≢ 45) → eqb (get_or field 0 0) 45 ≡ false
not_minus field (inr other) = ne_eqb (get_or field 0 0) 45 other
not_minus [] (inl empty) = refl
not_minus (octet ∷ octets) (inl empty) = let none : length (octet ∷ octets) ≡ 0 = eqb-true _ _ empty in absurd (omega (arith, none))

pub integer-plain : (field : List ℕ) (size : Option ℕ) → eqb (get_or field 0 0) 45 ≡ false → number_of 9223372036854775807 field ≡ size → integer_of field ≡ from_zero size
integer-plain field size plain is = rw plain (ap from_zero is)

pub integer-minus : (field : List ℕ) (size : Option ℕ) → get_or field 0 0 ≡ 45 → number_of 9223372036854775807 (drop 1 field) ≡ size → integer_of field ≡ below_zero size
integer-minus field size minus is = let test : eqb (get_or field 0 0) 45 ≡ true = eq-eqb (get_or field 0 0) 45 minus in rw test (ap below_zero is)

pub below-some : (size : ℕ) → size ≢ 0 → below_zero (Some size) ≡ Some (neg_ℤ (pos size))
below-some size some = rw (ne_eqb size 0 some)

pub below-zero : (size : ℕ) → size ≡ 0 → below_zero (Some size) ≡ None
below-zero size zero_is = rw (eq-eqb size 0 zero_is)

-- there are as many numbers as fields
length-step : (number : Option ℤ) (more : Option (List ℤ)) (count : ℕ) (read : List ℤ) → ((rest : List ℤ) → more ≡ Some rest → length rest ≡ count) → with_integer number more ≡ Some read → length read ≡ suc count
length-step None more count read known is = absurd (cc)
length-step (Some number) None count read known is = absurd (cc)
length-step (Some number) (Some rest) count read known is = let same : number ∷ rest ≡ read = cc in ap length (sym same) ∙ ap suc (known rest refl)

pub length-integers : (fields : List (List ℕ)) (read : List ℤ) → integers_of fields ≡ Some read → length read ≡ length fields
length-integers [] read is = let same : [] ≡ read = cc in ap length (sym same)
length-integers (field ∷ fields) read is = length-step (integer_of field) (integers_of fields) (length fields) read (length-integers fields) is

-- `numbers_of`, by the number of fields and by whether all of them spell numbers
pub numbers-others : (count : ℕ) (fields : List (List ℕ)) → eqb (length fields) count ≡ false → numbers_of count fields ≡ Err Fields
numbers-others count fields others = rw others

pub numbers-none : (count : ℕ) (fields : List (List ℕ)) → eqb (length fields) count ≡ true → integers_of fields ≡ None → numbers_of count fields ≡ Err Number
numbers-none count fields counted none = rw (counted, none)

pub numbers-some : (count : ℕ) (fields : List (List ℕ)) (read : List ℤ) → eqb (length fields) count ≡ true → integers_of fields ≡ Some read → numbers_of count fields ≡ Ok read
numbers-some count fields read counted some = rw (counted, some)
