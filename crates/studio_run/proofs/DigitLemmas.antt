-- Digits that spell octets, and the octets that they spell.
use Rattle.std.proofs.Common.{◌≡◌, ℕ, ◌<◌, ◌%◌, ◌+◌, ◌*◌, ◌≤◌, Bool, true, false, cond, eqb, List, ◌∷◌, [], Option, Some, None, length, take, drop, get_or, refl, sym, ap, ◌∙◌, arith}
use Rattle.std.specs.Prelude.{Result, Ok, Err, is_some, IsSome}
use Rattle.std.specs.List.{list_all, AllPass}
use Rattle.std.specs.Result.{result_ok}
use Rattle.std.proofs.lemmas.Bool.Decides.{nat_tests}
use Rattle.std.proofs.lemmas.List.{append-nil, drop_all}
use Rattle.std.proofs.lemmas.List.Sums.{AllPass-from_list_all, list_all-from_AllPass}
use Rattle.hex.specs.Hex.{decode_of, decode_pairs, decode_sized, digit_or_error, hex_digit_value, is_hex_digit, pair_value, value_at, ◌>>=◌}
use Rattle.hex.specs.declared.error.FromHexError.{FromHexError}
use Rattle.hex.proofs.HexLemmas.{decode_of-digits, decode_of-even, decode_of-ok}
use Rattle.hex.proofs.Pairs.{prepend, decode_pairs-ok_pair}
use Rattle.studio_run.specs.Trace.{octets_of}

-- an even number of octets can be decoded exactly if all are digits
digits_decode : (text : List ℕ) (all : Bool) → length text % 2 ≡ 0 → all ≡ list_all is_hex_digit text → all ≡ is_some (result_ok (decode_of text))
digits_decode text true even is = let read = decode_of-digits text even (AllPass-from_list_all is_hex_digit text (sym is)) in rw read.1 refl
digits_decode text false even is = by_answer (decode_of text) refl
  where
    by_answer : (r : Result (List ℕ) FromHexError) → decode_of text ≡ r → false ≡ is_some (result_ok r)
    by_answer (Ok octets) read = is ∙ list_all-from_AllPass is_hex_digit text (decode_of-ok text octets read).1
    by_answer (Err fault) read = refl

pub spells_is : (text : List ℕ) (all : Bool) → 0 < length text → length text % 2 ≡ 0 → all ≡ list_all is_hex_digit text → all ≡ is_some (octets_of text)
spells_is text all some even is = let more : eqb (length text) 0 ≡ false = grind (arith, nat_tests, some) in rw more (digits_decode text all even is)

-- a text that spells octets has digits only, two for each octet
pub spelled_parts : (text : List ℕ) → is_some (octets_of text) ≡ true → AllPass is_hex_digit text × (length text % 2 ≡ 0)
spelled_parts text spelled = by_answer (eqb (length text) 0) (decode_of text) refl spelled
  where
    by_answer : (b : Bool) (r : Result (List ℕ) FromHexError) → decode_of text ≡ r → is_some (cond b None (result_ok r)) ≡ true → AllPass is_hex_digit text × (length text % 2 ≡ 0)
    by_answer true r is h = cc
    by_answer false (Ok octets) is h = let parts = decode_of-ok text octets is in (parts.1, parts.0)
    by_answer false (Err fault) is h = cc

pub digits_of : (text : List ℕ) → is_some (octets_of text) ≡ true → AllPass is_hex_digit text
digits_of text spelled = (spelled_parts text spelled).0

-- two digits, at any place
pair_reads : (h l : ℕ) → is_hex_digit h ≡ true → is_hex_digit l ≡ true → (v : ℕ) × ((i : ℕ) → pair_value h l i ≡ Ok v)
pair_reads h l high low = by_values (hex_digit_value h) (hex_digit_value l) refl refl high low
  where
    by_values : (x y : Option ℕ) → hex_digit_value h ≡ x → hex_digit_value l ≡ y → is_some x ≡ true → is_some y ≡ true → (v : ℕ) × ((i : ℕ) → pair_value h l i ≡ Ok v)
    by_values None y p q s t = cc
    by_values (Some m) None p q s t = cc
    by_values (Some m) (Some n) p q s t =
        (m * 16 + n, λ i. ap (λ (x : Option ℕ). digit_or_error h i x >>= (λ a. value_at l (i + 1) >>= (λ b. Ok (a * 16 + b)))) p ∙ ap (λ (y : Option ℕ). digit_or_error l (i + 1) y >>= (λ b. Ok (m * 16 + b))) q)

-- decoding two digits returns their octet
pub pair_is : (h l : ℕ) (r : Result (List ℕ) FromHexError) (octets : List ℕ) → r ≡ decode_sized (h ∷ l ∷ []) 1 → r ≡ Ok octets → is_hex_digit h ≡ true → is_hex_digit l ≡ true → (i : ℕ) → pair_value h l i ≡ Ok (get_or octets 0 0)
unfolding decode_pairs
pair_is h l r octets sized is high low i =
    let read = pair_reads h l high low in
    let whole : decode_sized (h ∷ l ∷ []) 1 ≡ Ok (read.0 ∷ []) = decode_pairs-ok_pair 0 h l read.0 [] (read.1 0) in
    let same : read.0 ∷ [] ≡ octets = cc in
    read.1 i ∙ ap (λ (os : List ℕ). Ok (get_or os 0 0)) same

-- decoding two digits has no fault
pub no_fault : (h l : ℕ) (r : Result (List ℕ) FromHexError) (e : FromHexError) → r ≡ decode_sized (h ∷ l ∷ []) 1 → r ≡ Err e → is_hex_digit h ≡ true → is_hex_digit l ≡ true → ⊥
unfolding decode_pairs
no_fault h l r e sized is high low =
    let read = pair_reads h l high low in
    let whole : decode_sized (h ∷ l ∷ []) 1 ≡ Ok (read.0 ∷ []) = decode_pairs-ok_pair 0 h l read.0 [] (read.1 0) in
    cc

some_text : (b : Bool) (o : Option (List ℕ)) → is_some (cond b None o) ≡ true → b ≡ false
some_text true o h = cc
some_text false o h = refl

-- all octets are decoded
pub octets_are : (text space : List ℕ) (count : ℕ) → is_some (octets_of text) ≡ true → length text ≤ 2 * count + 1 → decode_pairs 0 text ≡ prepend (take count space) (decode_pairs (2 * count) (drop (2 * count) text)) → octets_of text ≡ Some (take count space)
unfolding decode_pairs
octets_are text space count spelled half inv =
    let even = (spelled_parts text spelled).1 in
    let rest : drop (2 * count) text ≡ [] = drop_all (2 * count) text (omega arith) in
    let pairs : decode_pairs 0 text ≡ Ok (take count space) = inv ∙ ap (λ (l : List ℕ). prepend (take count space) (decode_pairs (2 * count) l)) rest ∙ ap Ok (append-nil (take count space)) in
    ap (λ (b : Bool). cond b None (result_ok (decode_of text))) (some_text (eqb (length text) 0) (result_ok (decode_of text)) spelled)
    ∙ ap result_ok (decode_of-even text even ∙ pairs)

pub is_some-true : (o : Option (List ℕ)) → IsSome o → is_some o ≡ true
is_some-true None h = cc
is_some-true (Some octets) h = refl
