-- Moved changes: only their times can have a fault.
use Rattle.std.proofs.Common.{◌≡◌, ◌^◌, ◌++◌, not, FitsSigned, w64, ℤ, pos, ◌+ℤ◌, IfNone, Bool, true, false, ◌&&◌, nat_le, List, [], ◌∷◌, length, Option, Some, None, refl, ap, sym, ◌∙◌, arith}
use Rattle.std.specs.Bool.{if◌then◌else◌}
use Rattle.std.specs.Int.RustNames.{int_le, int_lt}
use Rattle.std.proofs.lemmas.Int.{ints}
use Rattle.std.proofs.lemmas.List.{length-map}
use Rattle.std.proofs.lemmas.List.Folds.{list_all-map}
use Rattle.std.proofs.lemmas.Option.{none-some}
use Rattle.gain_mix.specs.Schedule.{has_few, has_one_shape, has_times, is_rising, rises_from, schedule_fault_of}
use Rattle.gain_mix.specs.declared.schedule.ScheduleFault.{ScheduleFault}
use Rattle.gain_mix.specs.declared.schedule.ScheduleFault.TheVariants.{TooMany, Shape, Time, Order}
use Rattle.mix_packets.specs.OutSpec.{is_start}
use Rattle.studio_config.specs.Shift.{shifted_change, shifted_changes}

int_lt-moved : (a b by : ℤ) → int_lt (a +ℤ by) (b +ℤ by) ≡ int_lt a b
int_lt-moved a b by = by_tests (int_lt (a +ℤ by) (b +ℤ by)) refl (int_lt a b) refl
  where
    by_tests : (moved : Bool) → int_lt (a +ℤ by) (b +ℤ by) ≡ moved → (test : Bool) → int_lt a b ≡ test → moved ≡ test
    by_tests true is true was = refl
    by_tests true is false was = absurd (omega (arith, ints))
    by_tests false is true was = absurd (omega (arith, ints))
    by_tests false is false was = refl

rises_from-moved : (by t : ℤ) (later : List (ℤ × List (List ℤ))) → rises_from (t +ℤ by) (shifted_changes by later) ≡ rises_from t later
rises_from-moved by t [] = refl
rises_from-moved by t (change ∷ later) = rw (int_lt-moved t change.0 by, rises_from-moved by change.0 later)

is_rising-moved : (by : ℤ) (later : List (ℤ × List (List ℤ))) → is_rising (shifted_changes by later) ≡ is_rising later
is_rising-moved by [] = refl
is_rising-moved by (change ∷ later) = rises_from-moved by change.0 later

-- the first fault, by which of the tests passed
abbrev first_by : Bool → Bool → Bool → Bool → Option ScheduleFault
first_by few shape times rising = if few then if shape then if times then if rising then None else Some Order else Some Time else Some Shape else Some TooMany

only_times : (few shape times rising moved : Bool) (f : ScheduleFault) → first_by few shape times rising ≡ None → first_by few shape moved rising ≡ Some f → moved ≡ false
only_times few shape times rising false f none some = refl
only_times true true true true true f none some = absurd (none-some f some)
only_times true true true false true f none some = absurd (none-some Order (sym none))
only_times true true false rising true f none some = absurd (none-some Time (sym none))
only_times true false times rising true f none some = absurd (none-some Shape (sym none))
only_times false shape times rising true f none some = absurd (none-some TooMany (sym none))

-- if changes have no fault, and have one after they were moved, then a moved time is out of range
pub has_times-moved : (first : List (List ℤ)) (later : List (ℤ × List (List ℤ))) (by : ℤ) (f : ScheduleFault) → schedule_fault_of first later ≡ None → schedule_fault_of first (shifted_changes by later) ≡ Some f → has_times (shifted_changes by later) ≡ false
has_times-moved first later by f none some =
    let moved = has_times (shifted_changes by later) in
    let few : has_few (shifted_changes by later) ≡ has_few later = ap (λ n. nat_le n 64) (length-map later (shifted_change by)) in
    let shape : has_one_shape first (shifted_changes by later) ≡ has_one_shape first later = list_all-map _ (shifted_change by) later in
    let rising = is_rising-moved by later in
    let same : first_by (has_few later) (has_one_shape first later) moved (is_rising later) ≡ schedule_fault_of first (shifted_changes by later) =
    sym (ap (λ b. first_by b (has_one_shape first (shifted_changes by later)) moved (is_rising (shifted_changes by later))) few
    ∙ ap (λ b. first_by (has_few later) b moved (is_rising (shifted_changes by later))) shape
    ∙ ap (first_by (has_few later) (has_one_shape first later) moved) rising) in
    only_times (has_few later) (has_one_shape first later) (has_times later) (is_rising later) moved f none (same ∙ some)

-- if changes have no fault, and are refused after they were moved, then a moved time is out of range
pub has_times-refused : (first : List (List ℤ)) (later : List (ℤ × List (List ℤ))) (by : ℤ) → schedule_fault_of first later ≡ None → IfNone (schedule_fault_of first (shifted_changes by later)) ⊥ → has_times (shifted_changes by later) ≡ false
has_times-refused first later by none refused = by_fault (schedule_fault_of first (shifted_changes by later)) refl refused
  where
    by_fault : (o : Option ScheduleFault) → schedule_fault_of first (shifted_changes by later) ≡ o → IfNone o ⊥ → has_times (shifted_changes by later) ≡ false
    by_fault None is none_said = absurd none_said
    by_fault (Some f) is told = has_times-moved first later by f none is

&&-false : (a : Bool) → (a && false) ≡ false
&&-false true = refl
&&-false false = refl

-- times at which an output may not start
pub is_start-early : (t : ℤ) → int_lt t (pos 0) ≡ true → is_start t ≡ false
is_start-early t early = by_low (int_le (pos 0) t) refl
  where
    by_low : (b : Bool) → int_le (pos 0) t ≡ b → is_start t ≡ false
    by_low true is = absurd (omega (arith, ints))
    by_low false is = rw is

pub is_start-late : (t : ℤ) → int_lt (pos (2 ^ 60)) t ≡ true → is_start t ≡ false
is_start-late t late = by_high (int_le t (pos (2 ^ 60))) refl
  where
    by_high : (b : Bool) → int_le t (pos (2 ^ 60)) ≡ b → is_start t ≡ false
    by_high true is = absurd (omega (arith, ints))
    by_high false is = rw (is, &&-false (int_le (pos 0) t))

pub is_start-within : (t : ℤ) → int_lt t (pos 0) ≡ false → int_lt (pos (2 ^ 60)) t ≡ false → is_start t ≡ true
is_start-within t low high = by_tests (int_le (pos 0) t) refl (int_le t (pos (2 ^ 60))) refl
  where
    by_tests : (a : Bool) → int_le (pos 0) t ≡ a → (b : Bool) → int_le t (pos (2 ^ 60)) ≡ b → is_start t ≡ true
    by_tests true is true was = rw (is, was)
    by_tests false is b was = absurd (omega (arith, ints))
    by_tests true is false was = absurd (omega (arith, ints))

-- a change's time is in range
abbrev pub is_time : ℤ × List (List ℤ) → Bool
is_time change = not (int_lt change.0 (pos 0)) && not (int_lt (pos (2 ^ 60)) change.0)

-- a time that an `i64` cannot hold is out of range
pub is_time-unfit : (t : ℤ) → (FitsSigned w64 t → ⊥) → (not (int_lt t (pos 0)) && not (int_lt (pos (2 ^ 60)) t)) ≡ false
is_time-unfit t unfit = by_tests (int_lt t (pos 0)) refl (int_lt (pos (2 ^ 60)) t) refl
  where
    by_tests : (low : Bool) → int_lt t (pos 0) ≡ low → (high : Bool) → int_lt (pos (2 ^ 60)) t ≡ high → (not low && not high) ≡ false
    by_tests true is high was = refl
    by_tests false is true was = refl
    by_tests false is false was = absurd (unfit (record { sfits = omega (arith, ints) }))

-- if the time of one change is out of range, the times of all are
pub has_times-seam : (before : List (ℤ × List (List ℤ))) (change : ℤ × List (List ℤ)) (after : List (ℤ × List (List ℤ))) → is_time change ≡ false → has_times (before ++ change ∷ after) ≡ false
has_times-seam [] change after out = rw out
has_times-seam (other ∷ before) change after out = ap (λ b. is_time other && b) (has_times-seam before change after out) ∙ &&-false (is_time other)
