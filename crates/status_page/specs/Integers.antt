-- Integers in texts and JSON values.
use Rattle.std.specs.Prelude.{ℕ, ◌^◌, ◌&&◌, nat_lt, nat_le, Bool, List, length, ℤ, pos, negsuc, Option, Some, None, option_and_then, if◌then◌else◌}
use Rattle.std.specs.Int.RustNames.{unsigned_abs}
use Rattle.std.specs.Str.{all_ascii_digits}
use Rattle.std.specs.Str.Parse.{signed_digits_value, without_leading_sign}
use Rattle.json.specs.Find.{as_number}
use Rattle.json.specs.Json.{Json}

-- an integer has 64 bits; one is the sign
abbrev pub has_64_bits : ℤ → Bool
has_64_bits (pos n) = nat_lt n (2 ^ 63)
has_64_bits (negsuc n) = nat_lt n (2 ^ 63)

-- one decimal digit or more
abbrev pub is_numeral : List ℕ → Bool
is_numeral digits = nat_lt 0 (length digits) && all_ascii_digits digits

-- a text is decimal digits, maybe behind a sign, and its number has 64 bits
abbrev pub is_integer : List ℕ → Bool
is_integer text = is_numeral (without_leading_sign text) && has_64_bits (signed_digits_value 10 text)

-- the integer in a text
unfoldable pub integer_in : List ℕ → Option ℤ
integer_in text = if is_integer text then Some (signed_digits_value 10 text) else None

-- the integer of a JSON value: a number without a fraction and without an exponent
abbrev pub integer_of : Json → Option ℤ
integer_of value = option_and_then integer_in (as_number value)

-- the integer, if it is a gain: at most 16 * 65,536, of either sign
abbrev pub gain_in : Option ℤ → Option ℤ
gain_in None = None
gain_in (Some gain) = if nat_le (unsigned_abs gain) 1048576 then Some gain else None

-- the gain of a JSON value
abbrev pub gain_of : Json → Option ℤ
gain_of value = gain_in (integer_of value)

-- the integer, if it is not negative, as the number of an output channel or an input
abbrev pub index_in : Option ℤ → Option ℕ
index_in None = None
index_in (Some (pos n)) = Some n
index_in (Some (negsuc n)) = None

-- the number of an output channel or an input, by a JSON value
abbrev pub index_of : Json → Option ℕ
index_of value = index_in (integer_of value)
