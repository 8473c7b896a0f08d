-- The changes of a run's gains that are still to come, by their times.
use Rattle.std.specs.Prelude.{◌≡◌, ◌≤ℤ◌, ℤ, List, [], ◌∷◌, ◌++◌, map, int_le, int_lt, if◌then◌else◌}
use Rattle.gain_mix.specs.Changes.{rest_at}
use Rattle.studio_config.specs.Studio.{Studio}
use Rattle.studio_io.specs.declared.gain_source.GainAnswer.{GainAnswer}
use Rattle.studio_io.specs.declared.gain_source.GainAnswer.TheVariants.{Taken, Refused, Shown}
use Rattle.studio_mix.specs.Changed.{with_changes}

-- the times of changes
abbrev pub times_of : List (ℤ × List (List ℤ)) → List ℤ
times_of changes = map (λ (change : ℤ × List (List ℤ)). change.0) changes

-- the times of the changes that are still to come behind t, in the studio with these changes
abbrev pub planned_at : Studio → List (ℤ × List ℤ) → ℤ → List ℤ
planned_at studio changes t = times_of (rest_at (with_changes studio changes).schedule t).later

-- these times without the first ones that are due at t
abbrev pub behind : ℤ → List ℤ → List ℤ
behind t [] = []
behind t (time ∷ times) = if int_le time t then behind t times else time ∷ times

-- the times before `at`, from the front
abbrev pub earlier : ℤ → List ℤ → List ℤ
earlier at [] = []
earlier at (time ∷ times) = if int_lt time at then time ∷ earlier at times else earlier at times

-- the times after an answer: a change that was taken replaces all from its time on
abbrev pub with_taken : GainAnswer → List ℤ → List ℤ
with_taken (Taken at) times = earlier at times ++ at ∷ []
with_taken (Refused fault) times = times
with_taken (Shown at) times = times

-- the times that are left after an answer, if the next block begins at `next`
abbrev pub planned_after : GainAnswer → ℤ → List ℤ → List ℤ
planned_after answer next times = behind next (with_taken answer (behind next times))

-- from this time on, these times are those of the changes still to come
abbrev pub AreKept : Studio → List (ℤ × List ℤ) → ℤ → List ℤ → Type 0
AreKept studio changes from times = (t : ℤ) → from ≤ℤ t → behind t times ≡ planned_at studio changes t
