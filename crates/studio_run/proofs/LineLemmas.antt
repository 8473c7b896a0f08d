-- The lines of a text, one after the other.
use Rattle.std.proofs.Common.{◌≡◌, ℕ, ◌+◌, ◌-◌, ◌<◌, ℤ, true, false, eqb, List, [], ◌∷◌, length, take, drop, Some, None, Ok, Err, Result, refl, ap, ◌∙◌, arith}
use Rattle.std.specs.Prelude.{position}
use Rattle.std.proofs.lemmas.List.Splits.{length-slice_split}
use Rattle.gain_mix.specs.Changes.{Changes}
use Rattle.studio_run.specs.Trace.{lines_of}
use Rattle.studio_run.proofs.FieldsLemmas.{split-Some, split-None}
use Rattle.studio_run.specs.GainsLines.{fault_in, in_line, line_said, lines_said, then_line}
use Rattle.studio_run.specs.declared.gains.fault.GainsFault.{GainsFault}
use Rattle.studio_run.specs.declared.gains.fault.GainsFaultKind.{GainsFaultKind}
use Rattle.studio_run.specs.declared.gains.fault.GainsFaultKind.TheVariants.{Cut}

some_lines : (text : List ℕ) → 0 < length (lines_of text)
some_lines text = omega (arith, length-slice_split (λ octet. eqb octet 10) text)

said-more : (number : ℕ) (said : Result (Changes × ℤ) GainsFault) (line : List ℕ) (more : List (List ℕ)) → 0 < length more
    → lines_said number said (line ∷ more) ≡ lines_said (number + 1) (then_line number said line) more
said-more number said line [] some = absurd (omega arith)
said-more number said line (next ∷ more) some = refl

pub not_empty : (text : List ℕ) → eqb (length text) 0 ≡ false → 0 < length text
not_empty [] some = absurd (let no : true ≡ false = some in cc)
not_empty (octet ∷ octets) some = omega arith

-- the lines after the first fault change nothing
said-fault : (lines : List (List ℕ)) (number : ℕ) (fault : GainsFault) → lines_said number (Err fault) lines ≡ Err fault
said-fault [] number fault = refl
said-fault (last ∷ []) number fault = refl
said-fault (line ∷ next ∷ more) number fault = said-fault (next ∷ more) (number + 1) fault

-- a text with a line feed: its first line, and those after it
pub said-line : (text : List ℕ) (end number : ℕ) (state next : Changes × ℤ) → position (λ octet. eqb octet 10) text ≡ Some end → line_said state (take end text) ≡ Ok next
    → lines_said number (Ok state) (lines_of text) ≡ lines_said (number + 1) (Ok next) (lines_of (take (length text - (end + 1)) (drop (end + 1) text)))
said-line text end number state next found says =
    let rest = take (length text - (end + 1)) (drop (end + 1) text) in
    ap (lines_said number (Ok state)) (split-Some 10 text end found)
    ∙ said-more number (Ok state) (take end text) (lines_of rest) (some_lines rest)
    ∙ ap (λ (said : Result (Changes × ℤ) GainsFaultKind). lines_said (number + 1) (in_line number said) (lines_of rest)) says

-- a text with a line feed, whose first line has a fault
pub fails-line : (text : List ℕ) (end number : ℕ) (state : Changes × ℤ) (kind : GainsFaultKind) → position (λ octet. eqb octet 10) text ≡ Some end → line_said state (take end text) ≡ Err kind
    → lines_said number (Ok state) (lines_of text) ≡ Err (fault_in number kind)
fails-line text end number state kind found says =
    let rest = take (length text - (end + 1)) (drop (end + 1) text) in
    ap (lines_said number (Ok state)) (split-Some 10 text end found)
    ∙ said-more number (Ok state) (take end text) (lines_of rest) (some_lines rest)
    ∙ ap (λ (said : Result (Changes × ℤ) GainsFaultKind). lines_said (number + 1) (in_line number said) (lines_of rest)) says
    ∙ said-fault (lines_of rest) (number + 1) (fault_in number kind)

end_cut : (text : List ℕ) (number : ℕ) (state : Changes × ℤ) → 0 < length text → lines_said number (Ok state) (text ∷ []) ≡ Err (fault_in number Cut)
end_cut [] number state some = absurd (omega arith)
end_cut (octet ∷ octets) number state some = refl

-- a text without a line feed
pub fails-cut : (text : List ℕ) (number : ℕ) (state : Changes × ℤ) → position (λ octet. eqb octet 10) text ≡ None → 0 < length text
    → lines_said number (Ok state) (lines_of text) ≡ Err (fault_in number Cut)
fails-cut text number state none some = ap (lines_said number (Ok state)) (split-None 10 text none) ∙ end_cut text number state some

-- a text with nothing left changes nothing
pub said-end : (text : List ℕ) (number : ℕ) (state : Changes × ℤ) → length text ≡ 0 → lines_said number (Ok state) (lines_of text) ≡ Ok state
said-end [] number state none = refl
said-end (octet ∷ octets) number state none = absurd (omega arith)
