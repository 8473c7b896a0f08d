-- The gains in force after a change, and the gains that a change of one gain keeps.
use Rattle.std.proofs.Common.{◌≡◌, ◌≢◌, ◌⊎◌, inl, inr, ℕ, zero, suc, ◌<◌, ◌<ℤ◌, ◌≤ℤ◌, Bool, true, false, cond, ℤ, pos, List, [], ◌∷◌, length, get_or, set, Ok, Err, refl, sym, ap, ◌∙◌, arith}
use Rattle.std.specs.Int.RustNames.{int_lt}
use Rattle.std.proofs.lemmas.List.{get_or-set_same, get_or-set_other}
use Rattle.gain_mix.specs.Changes.{Changes, matrix_at, with_change}
use Rattle.gain_mix.specs.LiveSchedule.{has_place}
use Rattle.gain_mix.proofs.LiveScheduleLemmas.{changed_from, unchanged_before}
use Rattle.studio_run.specs.Gains.{with_gain}
use Rattle.studio_run.specs.GainsLines.{changed}
use Rattle.studio_run.specs.declared.gains.fault.GainsFaultKind.TheVariants.{Order, TooMany}

taken : (early place : Bool) (state next : Changes × ℤ) → cond early (Err Order) (cond place (Ok state) (Err TooMany)) ≡ Ok next → state ≡ next
taken true place state next is = cc
taken false true state next is = cc
taken false false state next is = cc

schedule_taken : (state next : Changes × ℤ) (change : ℤ × List (List ℤ)) → changed state change ≡ Ok next → next.0 ≡ with_change state.0 change.0 change.1
schedule_taken state next change is =
    ap (λ (s : Changes × ℤ). s.0) (sym (taken (int_lt change.0 state.1) (has_place state.0 change.0) (with_change state.0 change.0 change.1, change.0) next is))

pub in_force_from : (state next : Changes × ℤ) (change : ℤ × List (List ℤ)) (t : ℤ) → changed state change ≡ Ok next → change.0 ≤ℤ t → matrix_at next.0 t ≡ change.1
in_force_from state next change t is late = ap (λ (s : Changes). matrix_at s t) (schedule_taken state next change is) ∙ changed_from state.0 change.0 change.1 t late

pub in_force_before : (state next : Changes × ℤ) (change : ℤ × List (List ℤ)) (t : ℤ) → changed state change ≡ Ok next → t <ℤ change.0 → matrix_at next.0 t ≡ matrix_at state.0 t
in_force_before state next change t is early = ap (λ (s : Changes). matrix_at s t) (schedule_taken state next change is) ∙ unchanged_before state.0 change.0 change.1 t early

pub gain_set : (rows : List (List ℤ)) (output input : ℕ) (gain : ℤ) → output < length rows → input < length (get_or rows output [])
    → get_or (get_or (with_gain rows output input gain) output []) input (pos 0) ≡ gain
gain_set [] output input gain low within = absurd (omega arith)
gain_set (row ∷ rows) zero input gain low within = get_or-set_same row input gain (pos 0) within
gain_set (row ∷ rows) (suc output) input gain low within = gain_set rows output input gain (omega arith) within

other_place : (row : List ℤ) (input place : ℕ) (gain : ℤ) → (◌≢◌ {A = ℕ} 0 0) ⊎ (place ≢ input) → get_or (set row input gain) place (pos 0) ≡ get_or row place (pos 0)
other_place row input place gain (inl never) = absurd (never refl)
other_place row input place gain (inr other) = get_or-set_other row input place gain (pos 0) other

other_row : (row output input place : ℕ) → (suc row ≢ suc output) ⊎ (place ≢ input) → (row ≢ output) ⊎ (place ≢ input)
other_row row output input place (inl other) = inl (λ same. other (ap suc same))
other_row row output input place (inr other) = inr other

pub others_kept : (rows : List (List ℤ)) (output input : ℕ) (gain : ℤ) (row place : ℕ) → (row ≢ output) ⊎ (place ≢ input)
    → get_or (get_or (with_gain rows output input gain) row []) place (pos 0) ≡ get_or (get_or rows row []) place (pos 0)
others_kept [] output input gain row place other = refl
others_kept (r ∷ rows) zero input gain zero place other = other_place r input place gain other
others_kept (r ∷ rows) zero input gain (suc row) place other = refl
others_kept (r ∷ rows) (suc output) input gain zero place other = refl
others_kept (r ∷ rows) (suc output) input gain (suc row) place other = others_kept rows output input gain row place (other_row row output input place other)
