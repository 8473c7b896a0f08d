-- A schedule in use, which takes changes, and why it refuses a change.
use Rattle.std.specs.Prelude.{◌≡◌, ℕ, ◌+◌, ◌*◌, ◌^◌, ◌≤◌, ◌<ℤ◌, ◌&&◌, ◌==◌, not, nat_lt, int_le, int_lt, Bool, false, ℤ, pos, List, [], ◌∷◌, length, take, All, ⊤, Option, Some, None, if◌then◌else◌}
use Rattle.gain_mix.specs.Gain.{ins_of}
use Rattle.gain_mix.specs.Changes.{Changes, before}
use Rattle.gain_mix.specs.Matrix.{has_range}
use Rattle.gain_mix.specs.declared.live_schedule.ChangeFault.{ChangeFault}
use Rattle.gain_mix.specs.declared.live_schedule.ChangeFault.TheVariants.{Shape, Range, Time, TooMany}

-- the gains are as many as those of the first matrix
abbrev pub fits_shape : Changes → List ℤ → Bool
fits_shape changes gains = length gains == length changes.first * ins_of changes.first

-- the time is from this one to 2 ^ 60
abbrev pub is_time_from : ℤ → ℤ → Bool
is_time_from from at = not (int_lt at from) && not (int_lt (pos (2 ^ 60)) at)

-- fewer than 64 of the changes that are still to come are before this time
abbrev pub has_place : Changes → ℤ → Bool
has_place changes at = nat_lt (length (before at changes.later)) 64

-- the first fault of a change, which may not be before `from`
abbrev pub change_fault_of : Changes → ℤ → ℤ → List ℤ → Option ChangeFault
change_fault_of changes from at gains =
    if fits_shape changes gains then if has_range gains then if is_time_from from at then if has_place changes at then None else Some TooMany else Some Time else Some Range else Some Shape

-- the first change has come
abbrev pub is_due : List (ℤ × List (List ℤ)) → ℤ → Bool
is_due [] t = false
is_due (change ∷ later) t = int_le change.0 t

-- each change comes before the later ones
abbrev pub Rises : List (ℤ × List (List ℤ)) → Type 0
Rises [] = ⊤
Rises (change ∷ later) = All (λ next. change.0 <ℤ next.0) later × Rises later

-- the places for changes: the first `used` hold changes, in the order of their times, and each place has a matrix of
-- the first matrix's shape
pub record AreSlots (first : List (List ℤ)) (slots : List (ℤ × List (List ℤ))) (used : ℕ) : Type 0 where
  pub outs : All (λ slot. length slot.1 ≡ length first) slots
  pub ins : All (λ slot. ins_of slot.1 ≡ ins_of first) slots
  pub few : used ≤ length slots
  pub rises : Rises (take used slots)

-- the first places hold the changes, and `space` free places follow
pub record HasFree (first : List (List ℤ)) (later : List (ℤ × List (List ℤ))) (slots : List (ℤ × List (List ℤ))) (space : ℕ) : Type 0 where
  pub sound : AreSlots first slots (length later)
  pub begin : take (length later) slots ≡ later
  pub long : length slots ≡ length later + space
