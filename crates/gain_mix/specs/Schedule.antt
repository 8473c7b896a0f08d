-- A schedule of matrices, and why a schedule is refused.
use Rattle.std.specs.Prelude.{◌≡◌, All, ◌^◌, ◌&&◌, not, Bool, true, ℤ, pos, List, [], ◌∷◌, length, Option, Some, None, nat_le, int_lt, ◌==◌, if◌then◌else◌}
use Rattle.std.specs.List.{list_all}
use Rattle.gain_mix.specs.Gain.{ins_of}
use Rattle.gain_mix.specs.declared.schedule.ScheduleFault.{ScheduleFault}
use Rattle.gain_mix.specs.declared.schedule.ScheduleFault.TheVariants.{TooMany, Shape, Time, Order}

-- there are at most 64 changes
abbrev pub has_few : List (ℤ × List (List ℤ)) → Bool
has_few later = nat_le (length later) 64

-- each matrix has as many outputs and inputs as the first one
abbrev pub has_one_shape : List (List ℤ) → List (ℤ × List (List ℤ)) → Bool
has_one_shape first later =
    list_all (λ change. length change.1 == length first && ins_of change.1 == ins_of first) later

-- each time is from 0 to 2 ^ 60
abbrev pub has_times : List (ℤ × List (List ℤ)) → Bool
has_times later = list_all (λ change. not (int_lt change.0 (pos 0)) && not (int_lt (pos (2 ^ 60)) change.0)) later

-- each change is later than the change before it, and the first change is later than `t`
abbrev pub rises_from : ℤ → List (ℤ × List (List ℤ)) → Bool
rises_from t [] = true
rises_from t (change ∷ later) = int_lt t change.0 && rises_from change.0 later

-- the times rise strictly
abbrev pub is_rising : List (ℤ × List (List ℤ)) → Bool
is_rising [] = true
is_rising (change ∷ later) = rises_from change.0 later

-- the first fault of these changes
abbrev pub schedule_fault_of : List (List ℤ) → List (ℤ × List (List ℤ)) → Option ScheduleFault
schedule_fault_of first later =
    if has_few later then if has_one_shape first later then if has_times later then if is_rising later then None else Some Order else Some Time else Some Shape else Some TooMany

-- the matrices of the changes have the first one's shape, and the changes have no fault
pub record IsChanges (first : List (List ℤ)) (later : List (ℤ × List (List ℤ))) : Type 0 where
  pub outs : All (λ change. length change.1 ≡ length first) later
  pub ins : All (λ change. ins_of change.1 ≡ ins_of first) later
  pub no_fault : schedule_fault_of first later ≡ None
