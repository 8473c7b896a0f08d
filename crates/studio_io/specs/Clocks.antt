-- The readings of a clock.
use Rattle.std.specs.Prelude.{◌≡◌, ◌^◌, List, [], ◌∷◌, ℤ, pos}
use Rattle.std.specs.Int.{int_max, int_min}

-- if the next reading of a clock is known, the clock returns it, and the known readings after it are left
abbrev pub TellsTime : List ℤ → ℤ → List ℤ → Type 0
TellsTime [] answer rest = Unit {0}
TellsTime (next ∷ told) answer rest = (answer ≡ next) × (rest ≡ told)

-- the greatest clock reading so far after one more, which counts as 2^60 if it is beyond
abbrev pub time_with : ℤ → ℤ → ℤ
time_with time answer = int_max time (int_min answer (pos (2 ^ 60)))
