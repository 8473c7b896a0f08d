-- Changes that are taken while a schedule is in use, worked by hand: one output and one input.
use Rattle.std.specs.Prelude.{◌≡◌, ℤ, pos, List, [], ◌∷◌, replicate, None, Some, refl}
use Rattle.gain_mix.specs.Changes.{Changes, matrix_at, rest_at, with_change}
use Rattle.gain_mix.specs.LiveSchedule.{change_fault_of}
use Rattle.gain_mix.specs.declared.live_schedule.ChangeFault.TheVariants.{Shape, Range, Time, TooMany}

-- a matrix of one gain
abbrev one : ℤ → List (List ℤ)
one gain = (gain ∷ []) ∷ []

-- a gain of 10, of 20 from 100 on, and of 30 from 200 on
abbrev planned : Changes
planned = record { first = one (pos 10); later = (pos 100, one (pos 20)) ∷ (pos 200, one (pos 30)) ∷ [] }

-- a change at 150 replaces the one that was to come at 200, and leaves the one at 100
abbrev changed : Changes
changed = with_change planned (pos 150) (one (pos 40))

replaced : changed.later ≡ (pos 100, one (pos 20)) ∷ (pos 150, one (pos 40)) ∷ []
replaced = refl

just_before : matrix_at changed (pos 149) ≡ one (pos 20)
just_before = refl

from_then : matrix_at changed (pos 150) ≡ one (pos 40)
from_then = refl

not_any_more : matrix_at changed (pos 200) ≡ one (pos 40)
not_any_more = refl

-- of two changes at one time the second is in force
same_time : with_change changed (pos 150) (one (pos 50)) ≡ with_change planned (pos 150) (one (pos 50))
same_time = refl

-- at 100 the first change has come, and only the second is still to come
passed : rest_at planned (pos 100) ≡ record { first = one (pos 20); later = (pos 200, one (pos 30)) ∷ [] }
passed = refl

not_yet : rest_at planned (pos 99) ≡ planned
not_yet = refl

-- a change for the current time is in force at once, and no change is to come
now : rest_at (with_change planned (pos 100) (one (pos 40))) (pos 100) ≡ record { first = one (pos 40); later = [] }
now = refl

-- 64 changes at 100
abbrev filled : Changes
filled = record { first = one (pos 10); later = replicate 64 (pos 100, one (pos 20)) }

-- a change after these 64 finds no place, a change at their time replaces them, and a change before the block is too
-- early
too_many : change_fault_of filled (pos 100) (pos 101) (pos 40 ∷ []) ≡ Some TooMany
too_many = refl

in_their_place : change_fault_of filled (pos 100) (pos 100) (pos 40 ∷ []) ≡ None
in_their_place = refl

too_early : change_fault_of filled (pos 100) (pos 99) (pos 40 ∷ []) ≡ Some Time
too_early = refl

two_gains : change_fault_of filled (pos 100) (pos 99) (pos 40 ∷ pos 1048577 ∷ []) ≡ Some Shape
two_gains = refl

too_loud : change_fault_of filled (pos 100) (pos 99) (pos 1048577 ∷ []) ≡ Some Range
too_loud = refl
