-- An arrival's line in the form that almost all have: a letter, a digit and a datagram, with one space between them.
use Rattle.std.proofs.Common.{◌≡◌, ℕ, ◌+◌, ◌-◌, ◌<◌, ◌≤◌, Bool, true, false, cond, eqb, leb, ◌&&◌, ◌||◌, List, ◌∷◌, [], Option, Some, None, length, get_or, All, refl, sym, ap, subst, ◌∙◌, arith}
use Rattle.std.specs.Prelude.{codes, Ok, is_some, IsSome}
use Rattle.std.specs.Str.{bytes_eq}
use Rattle.std.proofs.lemmas.Bool.{eqb-true, ne_eqb, leb-true, and_parts, and_right}
use Rattle.std.proofs.lemmas.Fmt.{decimal_digit}
use Rattle.std.proofs.lemmas.List.Splits.{slice_split_none}
use Rattle.hex.specs.Hex.{is_hex_digit}
use Rattle.studio_session.specs.Event.{Arrival}
use Rattle.studio_run.specs.Fields.{fields_of, EndsWith}
use Rattle.studio_run.specs.Trace.{arrival, arrival_on, close_of, fields_said, is_silent, line_said, number_of, octets_of, path_of, tick_of, with_event}
use Rattle.studio_run.specs.LineEvent.{octets_by}
use Rattle.studio_run.proofs.DigitLemmas.{digits_of}
use Rattle.studio_run.proofs.FieldsLemmas.{chosen-Some}
use Rattle.studio_run.proofs.NumberLemmas.{number_of-decimal}
use Rattle.studio_run.proofs.TraceLemmas.{some_octets}

-- a digit is not a space
digit_no_space : (x : ℕ) → is_hex_digit x ≡ true → eqb x 32 ≡ false
digit_no_space x digit = by_test (eqb x 32) refl
  where
    by_test : (b : Bool) → eqb x 32 ≡ b → eqb x 32 ≡ false
    by_test false is = is
    by_test true is = let space : is_hex_digit 32 ≡ true = subst (λ n. is_hex_digit n ≡ true) (eqb-true x 32 is) digit in cc

no_spaces : (text : List ℕ) → is_some (octets_of text) ≡ true → All (λ x. eqb x 32 ≡ false) text
no_spaces text spelled = λ k d h. digit_no_space (get_or text k d) (digits_of text spelled k d h)

-- the three fields of the line
common_fields : (w d : ℕ) (ds : List ℕ) → eqb w 32 ≡ false → eqb d 32 ≡ false → All (λ x. eqb x 32 ≡ false) ds → fields_of (w ∷ 32 ∷ d ∷ 32 ∷ ds) ≡ (w ∷ []) ∷ (d ∷ []) ∷ ds ∷ []
common_fields w d ds letter digit none = rw (letter, digit, slice_split_none (λ x. eqb x 32) ds none) refl

digit_number : (d n : ℕ) → d ≡ 48 + n → n < 10 → number_of 15 (d ∷ []) ≡ Some n
digit_number d n is small = ap (λ (x : ℕ). number_of 15 (x ∷ [])) is ∙ ap (number_of 15) (sym (decimal_digit n small)) ∙ number_of-decimal 15 n (omega arith) (omega arith)

-- the range of a letter that names a path
letter_range : (w path : ℕ) → path_of (w ∷ []) ≡ Some path → (97 ≤ w) × (w ≤ 100)
letter_range w path is =
    let tests : (leb 97 w && leb w 100) ≡ true = (chosen-Some (leb 97 w && leb w 100) (w - 97) path is).0 in
    let parts = and_parts (leb 97 w) (leb w 100) tests in
    (leb-true 97 w parts.0, leb-true w 100 parts.1)

neither : (a b : Bool) → a ≡ false → b ≡ false → (a || b) ≡ false
neither false b p q = q
neither true b p q = p

-- the line is not empty and not a comment
not_silent : (w : ℕ) (rest : List ℕ) → 97 ≤ w → is_silent (w ∷ rest) ≡ false
not_silent w rest low =
    neither (eqb (length (w ∷ rest)) 0) (eqb w 35) (ne_eqb (length (w ∷ rest)) 0 (λ e. absurd (omega arith))) (ne_eqb w 35 (λ e. absurd (omega arith)))

-- the events of the three fields
fields_are : (w d n path : ℕ) (ds : List ℕ) → path_of (w ∷ []) ≡ Some path → number_of 15 (d ∷ []) ≡ Some n → octets_of ds ≡ Some (octets_by ds) → fields_said ((w ∷ []) ∷ (d ∷ []) ∷ ds ∷ []) ≡ Ok (Arrival n path (octets_by ds))
fields_are w d n path ds letter number octets =
    let rest : List (List ℕ) = (d ∷ []) ∷ ds ∷ [] in
    let word : List ℕ = w ∷ [] in
    let no_tick : bytes_eq word (codes "tick") ≡ false = and_right (eqb w 116) false refl in
    let no_close : bytes_eq word (codes "close") ≡ false = and_right (eqb w 99) false refl in
    ap (λ (b : Bool). cond b (tick_of rest) (cond (bytes_eq word (codes "close")) (close_of rest) (arrival_on (path_of word) rest))) no_tick
    ∙ ap (λ (b : Bool). cond b (close_of rest) (arrival_on (path_of word) rest)) no_close
    ∙ ap (λ (p : Option ℕ). arrival_on p rest) letter
    ∙ ap (λ (o : Option ℕ). arrival path o (octets_of ds)) number
    ∙ ap (λ (o : Option (List ℕ)). arrival path (Some n) o) octets

-- the event of the line
pub common_said : (line : List ℕ) (w d n path : ℕ) (ds : List ℕ) → line ≡ w ∷ 32 ∷ d ∷ 32 ∷ ds → path_of (w ∷ []) ≡ Some path → d ≡ 48 + n → n < 10 → is_some (octets_of ds) ≡ true → line_said line ≡ Ok (Some (Arrival n path (octets_by ds)))
common_said line w d n path ds is letter digit small spelled =
    let range = letter_range w path letter in
    let low = range.0 in
    let no_space : eqb w 32 ≡ false = ne_eqb w 32 (λ e. absurd (omega arith)) in
    let no_space_too : eqb d 32 ≡ false = ne_eqb d 32 (λ e. absurd (omega arith)) in
    let whole : List ℕ = w ∷ 32 ∷ d ∷ 32 ∷ ds in
    ap line_said is
    ∙ ap (λ (b : Bool). cond b (Ok None) (with_event (fields_said (fields_of whole)))) (not_silent w (32 ∷ d ∷ 32 ∷ ds) low)
    ∙ ap (λ (fs : List (List ℕ)). with_event (fields_said fs)) (common_fields w d ds no_space no_space_too (no_spaces ds spelled))
    ∙ ap with_event (fields_are w d n path ds letter (digit_number d n digit small) (some_octets ds spelled))

-- the datagram of the line is at its end
pub common_last : (line : List ℕ) (w d : ℕ) (ds : List ℕ) → line ≡ w ∷ 32 ∷ d ∷ 32 ∷ ds → is_some (octets_of ds) ≡ true → EndsWith line ds × IsSome (octets_of ds)
common_last line w d ds is spelled = let octets = some_octets ds spelled in ((w ∷ 32 ∷ d ∷ 32 ∷ [], is), rw octets)
