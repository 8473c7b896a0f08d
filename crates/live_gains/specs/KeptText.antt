-- The text in which the gains of a run are kept.
use Rattle.std.specs.Prelude.{ℕ, ℤ, pos, List, [], ◌∷◌, ◌++◌, codes}
use Rattle.std.specs.Fmt.{signed_decimal}
use Rattle.gain_mix.specs.Changes.{Changes, matrix_at}
use Rattle.studio_io.specs.Gains.{gains_in}

-- gains, each behind a space, 32
abbrev pub gains_text : List ℤ → List ℕ
gains_text [] = []
gains_text (gain ∷ gains) = 32 ∷ signed_decimal gain ++ gains_text gains

-- the line that sets these gains from a time on, with its line feed, 10
unfoldable pub line_text : ℤ → List ℤ → List ℕ
line_text at gains = codes "gains " ++ signed_decimal at ++ gains_text gains ++ 10 ∷ []

-- a line for each of these times, with the gains that are in force from then on
abbrev pub lines_text : Changes → List ℤ → List ℕ
lines_text schedule [] = []
lines_text schedule (at ∷ times) = line_text at (gains_in (matrix_at schedule at)) ++ lines_text schedule times

-- the text of the gains that are in force at a time, and of the changes at these times
abbrev pub kept_text : Changes → ℤ → List ℤ → List ℕ
kept_text schedule from times = codes "# kept by darbexum\n" ++ line_text (pos 0) (gains_in (matrix_at schedule from)) ++ lines_text schedule times
