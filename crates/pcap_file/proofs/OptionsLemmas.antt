-- The options of a block, one by one.
use Rattle.std.proofs.Common.{◌≡◌, ◌≢◌, ◌≤◌, ◌<◌, ◌-◌, ℕ, zero, suc, List, length, drop, min, refl, sym, ap, ◌∙◌, inl, inr, arith, Result, Ok, Err, Option, Some, None, nat_lt, ◌==◌, cond, true, false, slice_range}
use Rattle.std.proofs.lemmas.Bool.Decides.{nat_tests}
use Rattle.std.proofs.lemmas.Bool.{cases_lt}
use Rattle.std.proofs.lemmas.List.{length-drop, drop_min}
use Rattle.pcap_file.specs.declared.decode.endian.Endian.{Endian}
use Rattle.pcap_file.specs.declared.fault.CaptureFaultKind.{CaptureFaultKind}
use Rattle.pcap_file.specs.declared.fault.CaptureFaultKind.TheVariants as fault
use Rattle.pcap_file.specs.Options.{option_among, option_of, code_of, value_end, option_end}

not_below : (a b : ℕ) → b ≤ a → nat_lt a b ≡ false
not_below a b h = grind (arith, nat_tests)

below : (a b : ℕ) → a < b → nat_lt a b ≡ true
below a b h = grind (arith, nat_tests)

other : (a b : ℕ) → a ≢ b → (a == b) ≡ false
other a b h = grind (arith, nat_tests)

yes : (a b : ℕ) → a ≡ b → (a == b) ≡ true
yes a b h = grind (arith, nat_tests)

option_past : (order : Endian) (options : List ℕ) → 4 ≤ option_end order options
option_past order options = omega arith

-- too few octets for an option end the options
none_among : (n : ℕ) (order : Endian) (code : ℕ) (options : List ℕ) → length options < 4 → option_among n order code options ≡ Ok None
unfolding option_among
none_among zero order code options h = refl
none_among (suc n) order code options h = rw (below (length options) 4 h) refl

-- a limit that the octets keep doesn't matter
pub option_among-enough : (n m : ℕ) (order : Endian) (code : ℕ) (options : List ℕ)
    → length options ≤ n → length options ≤ m → option_among n order code options ≡ option_among m order code options
unfolding option_among
option_among-enough zero m order code options h g = sym (none_among m order code options (omega arith))
option_among-enough (suc n) zero order code options h g = none_among (suc n) order code options (omega arith)
option_among-enough (suc n) (suc m) order code options h g =
    elim (cases_lt (length options) 4) [
      | inl few ↦ none_among (suc n) order code options few ∙ sym (none_among (suc m) order code options few)
      | inr many ↦
          let past = option_past order options in
          let len = length-drop (option_end order options) options in
          let rest = option_among-enough n m order code (drop (option_end order options) options) (omega arith) (omega arith) in
          ap (λ (r : Result (Option (List ℕ)) CaptureFaultKind).
          cond (nat_lt (length options) 4) (Ok None)
          (cond (code_of order options == 0) (Ok None)
          (cond (nat_lt (length options) (value_end order options)) (Err fault.Options)
          (cond (code_of order options == code) (Ok (Some (slice_range options 4 (value_end order options)))) r)))) rest
    ]

-- if an option has another code, the search goes on with those behind it
option_among-step : (n m : ℕ) (order : Endian) (code : ℕ) (options : List ℕ) → n ≡ suc m
    → 4 ≤ length options → code_of order options ≢ 0 → value_end order options ≤ length options → code_of order options ≢ code
    → option_among n order code options ≡ option_among m order code (drop (option_end order options) options)
unfolding option_among
option_among-step n m order code options e many some whole differs =
    rw (e, not_below (length options) 4 many, other (code_of order options) 0 some, not_below (length options) (value_end order options) whole, other (code_of order options) code differs) refl

-- an option with another code is passed over
pub option_of-next : (order : Endian) (code : ℕ) (options rest : List ℕ)
    → 4 ≤ length options → code_of order options ≢ 0 → value_end order options ≤ length options → code_of order options ≢ code
    → rest ≡ drop (min (option_end order options) (length options)) options → option_of order code rest ≡ option_of order code options
option_of-next order code options rest many some whole differs e =
    let next : List ℕ = drop (option_end order options) options in
    let is_next : rest ≡ next = e ∙ drop_min (option_end order options) options in
    let past = option_past order options in
    let len = length-drop (option_end order options) options in
    ap (option_of order code) is_next
    ∙ option_among-enough (length next) (length options - 1) order code next (omega arith) (omega arith)
    ∙ sym (option_among-step (length options) (length options - 1) order code options (omega arith) many some whole differs)

-- the result of an option that ends the search
pub option_of-few : (order : Endian) (code : ℕ) (options : List ℕ) → length options < 4 → option_of order code options ≡ Ok None
option_of-few order code options h = none_among (length options) order code options h

option_among-end : (n m : ℕ) (order : Endian) (code : ℕ) (options : List ℕ) → n ≡ suc m
    → 4 ≤ length options → code_of order options ≡ 0 → option_among n order code options ≡ Ok None
unfolding option_among
option_among-end n m order code options e many ends = rw (e, not_below (length options) 4 many, ends) refl

pub option_of-end : (order : Endian) (code : ℕ) (options : List ℕ)
    → 4 ≤ length options → code_of order options ≡ 0 → option_of order code options ≡ Ok None
option_of-end order code options many ends = option_among-end (length options) (length options - 1) order code options (omega arith) many ends

option_among-cut : (n m : ℕ) (order : Endian) (code : ℕ) (options : List ℕ) → n ≡ suc m
    → 4 ≤ length options → code_of order options ≢ 0 → length options < value_end order options → option_among n order code options ≡ Err fault.Options
unfolding option_among
option_among-cut n m order code options e many some cut =
    rw (e, not_below (length options) 4 many, other (code_of order options) 0 some, below (length options) (value_end order options) cut) refl

pub option_of-cut : (order : Endian) (code : ℕ) (options : List ℕ)
    → 4 ≤ length options → code_of order options ≢ 0 → length options < value_end order options → option_of order code options ≡ Err fault.Options
option_of-cut order code options many some cut = option_among-cut (length options) (length options - 1) order code options (omega arith) many some cut

option_among-found : (n m : ℕ) (order : Endian) (code : ℕ) (options : List ℕ) → n ≡ suc m
    → 4 ≤ length options → code_of order options ≢ 0 → value_end order options ≤ length options → code_of order options ≡ code
    → option_among n order code options ≡ Ok (Some (slice_range options 4 (value_end order options)))
unfolding option_among
option_among-found n m order code options e many some whole same =
    rw (e, not_below (length options) 4 many, other (code_of order options) 0 some, not_below (length options) (value_end order options) whole, yes (code_of order options) code same) refl

pub option_of-found : (order : Endian) (code : ℕ) (options : List ℕ)
    → 4 ≤ length options → code_of order options ≢ 0 → value_end order options ≤ length options → code_of order options ≡ code
    → option_of order code options ≡ Ok (Some (slice_range options 4 (value_end order options)))
option_of-found order code options many some whole same = option_among-found (length options) (length options - 1) order code options (omega arith) many some whole same
