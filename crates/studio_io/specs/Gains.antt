-- The gains that a source asks for, and the answers to its requests.
use Rattle.std.specs.Prelude.{◌≡◌, ℕ, ◌+◌, ◌*◌, ◌&&◌, ◌==◌, nat_lt, Bool, true, false, ℤ, List, [], ◌∷◌, length, flat_map, set, Option, Some, None, if◌then◌else◌}
use Rattle.std.specs.Int.{int_max}
use Rattle.gain_mix.specs.Changes.{Changes, matrix_at}
use Rattle.gain_mix.specs.Gain.{ins_of}
use Rattle.gain_mix.specs.LiveSchedule.{change_fault_of}
use Rattle.gain_mix.specs.declared.live_schedule.ChangeFault.{ChangeFault}
use Rattle.gain_mix.specs.declared.live_schedule.ChangeFault.TheVariants.{Shape}
use Rattle.studio_io.specs.declared.gain_source.GainAction.{GainAction}
use Rattle.studio_io.specs.declared.gain_source.GainAction.TheVariants.{SetAll, SetOne, Show}
use Rattle.studio_io.specs.declared.gain_source.GainAnswer.{GainAnswer}
use Rattle.studio_io.specs.declared.gain_source.GainAnswer.TheVariants.{Taken, Refused, Shown}
use Rattle.studio_io.specs.declared.gain_source.GainRequest.{GainRequest}

-- the change of gains that an answer takes, if it takes one: its time, and all gains
abbrev pub changes_in : GainAnswer → List ℤ → List (ℤ × List ℤ)
changes_in (Taken at) gains = (at, gains) ∷ []
changes_in (Refused fault) gains = []
changes_in (Shown at) gains = []

-- all gains of a matrix, row by row
abbrev pub gains_in : List (List ℤ) → List ℤ
gains_in rows = flat_map (λ row. row) rows

-- all gains of a matrix, row by row, with the gain from an input to an output replaced
abbrev pub with_one : List (List ℤ) → ℕ → ℕ → ℤ → List ℤ
with_one rows output input gain = set (gains_in rows) (output * ins_of rows + input) gain

-- the list has as many places as the matrix has gains
abbrev pub has_places : List (List ℤ) → List ℤ → Bool
has_places rows gains = length gains == length (gains_in rows)

-- the time that a request is about, if the next block begins at `next`
abbrev pub time_of : Option ℤ → ℤ → ℤ
time_of None next = next
time_of (Some at) next = at

abbrev pub is_change : GainAction → Bool
is_change SetAll = true
is_change (SetOne output input gain) = true
is_change Show = false

-- the gains that a request asks for, if `rows` are in force at its time, and `gains` are in the buffer
abbrev pub wanted_gains : GainAction → List (List ℤ) → List ℤ → List ℤ
wanted_gains SetAll rows gains = gains
wanted_gains (SetOne output input gain) rows gains = with_one rows output input gain
wanted_gains Show rows gains = gains_in rows

-- a request fits a matrix: the matrix has its input and output, and the buffer has a place for each gain. One that sets
-- all gains always fits here; `change_fault_of` compares its gains with the matrix
abbrev pub fits_request : GainAction → List (List ℤ) → List ℤ → Bool
fits_request SetAll rows gains = true
fits_request (SetOne output input gain) rows gains = nat_lt output (length rows) && (nat_lt input (ins_of rows) && has_places rows gains)
fits_request Show rows gains = has_places rows gains

-- the answer to a change: it is taken at its time, or refused for its fault
abbrev pub change_answer : Option ChangeFault → ℤ → GainAnswer
change_answer None at = Taken at
change_answer (Some fault) at = Refused fault

-- the answer to a request that fits
abbrev pub fitting_answer : Bool → Changes → ℤ → ℤ → List ℤ → GainAnswer
fitting_answer true schedule next at gains = change_answer (change_fault_of schedule next at gains) at
fitting_answer false schedule next at gains = Shown (int_max at next)

-- the answer to a request about the time `at`, for a schedule whose next block begins at `next`
abbrev pub answer_at : GainAction → Changes → ℤ → ℤ → List ℤ → GainAnswer
answer_at action schedule next at gains =
    if fits_request action (matrix_at schedule at) gains then fitting_answer (is_change action) schedule next at (wanted_gains action (matrix_at schedule at) gains) else Refused Shape

abbrev pub answer_of : GainRequest → Changes → ℤ → List ℤ → GainAnswer
answer_of request schedule next gains = answer_at request.action schedule next (time_of request.at next) gains

-- the gains in the buffer before and after an answer: afterwards they are those in force from the answer's time on. If
-- the request was refused, they are those at the next block's start, provided that the buffer has a place for each gain
abbrev pub AreShown : GainAnswer → GainRequest → Changes → ℤ → List ℤ → List ℤ → Type 0
AreShown (Taken at) request schedule next before after = after ≡ wanted_gains request.action (matrix_at schedule (time_of request.at next)) before
AreShown (Shown at) request schedule next before after = after ≡ wanted_gains request.action (matrix_at schedule (time_of request.at next)) before
AreShown (Refused fault) request schedule next before after = has_places (matrix_at schedule next) before ≡ true → after ≡ gains_in (matrix_at schedule next)
