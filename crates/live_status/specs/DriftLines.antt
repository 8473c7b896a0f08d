-- The lines of drift while a live run goes on.
use Rattle.std.specs.Prelude.{ℕ, ℤ, ◌++◌, List, Option, Some, None, codes}
use Rattle.std.specs.Fmt.{decimal, signed_decimal}
use Rattle.rtp_stream.specs.Path.{path_letter}
use Rattle.status_page.specs.declared.snapshot.PathState.{PathState}
use Rattle.live_status.specs.Lines.{flag_text, known_text}

-- the line of a stream's time left, at this clock reading
abbrev pub left_line : ℕ → ℤ → Option ℕ → List ℕ
left_line stream time left = codes "left=" ++ decimal stream ++ codes " time=" ++ signed_decimal time ++ codes " seconds=" ++ known_text left ++ codes "\n"

-- a number with its sign, or a dash if it is not known
abbrev pub change_text : Option ℤ → List ℕ
change_text None = codes "-"
change_text (Some change) = signed_decimal change

-- the line of a path's drift, at this clock reading, in three parts: its place, the drift, and two flags for what is
-- wrong
abbrev pub drift_place : ℕ → ℕ → ℤ → List ℕ
drift_place stream path time = codes "drift=" ++ decimal stream ++ path_letter path ++ codes " time=" ++ signed_decimal time

abbrev pub drift_change : Option ℤ → List ℕ
drift_change drift = codes " ppm=" ++ change_text drift

abbrev pub drift_flags : PathState → List ℕ
drift_flags state = codes " astray=" ++ flag_text state.is_astray ++ codes " repeating=" ++ flag_text state.is_repeating ++ codes "\n"

abbrev pub drift_line : ℕ → ℕ → ℤ → PathState → List ℕ
drift_line stream path time state = drift_place stream path time ++ drift_change state.drift ++ drift_flags state
