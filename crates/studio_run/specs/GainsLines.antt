-- The schedule that the lines of a text lead to, or the first fault of the text.
use Rattle.std.specs.Prelude.{ℕ, ◌+◌, ℤ, pos, List, [], ◌∷◌, Result, Ok, Err, if◌then◌else◌}
use Rattle.std.specs.Int.RustNames.{int_lt}
use Rattle.gain_mix.specs.Changes.{Changes, with_change}
use Rattle.gain_mix.specs.LiveSchedule.{has_place}
use Rattle.studio_run.specs.Fields.{fields_of}
use Rattle.studio_run.specs.Trace.{is_silent, lines_of}
use Rattle.studio_run.specs.Gains.{fields_said}
use Rattle.studio_run.specs.declared.gains.fault.GainsFault.{GainsFault}
use Rattle.studio_run.specs.declared.gains.fault.GainsFaultKind.{GainsFaultKind}
use Rattle.studio_run.specs.declared.gains.fault.GainsFaultKind.TheVariants.{Cut, Order, TooMany}

-- the schedule, and the time of the last change, after a further change, which replaces all changes planned for its
-- time or later
abbrev pub changed : Changes × ℤ → ℤ × List (List ℤ) → Result (Changes × ℤ) GainsFaultKind
changed state change =
    if int_lt change.0 state.1 then Err Order
    else if has_place state.0 change.0 then Ok (with_change state.0 change.0 change.1, change.0)
    else Err TooMany

abbrev pub then_changed : Changes × ℤ → Result (ℤ × List (List ℤ)) GainsFaultKind → Result (Changes × ℤ) GainsFaultKind
then_changed state (Ok change) = changed state change
then_changed state (Err kind) = Err kind

-- the state after a line; an empty line or a comment changes nothing
abbrev pub line_said : Changes × ℤ → List ℕ → Result (Changes × ℤ) GainsFaultKind
line_said state line = if is_silent line then Ok state else then_changed state (fields_said state.0 (fields_of line))

abbrev pub fault_in : ℕ → GainsFaultKind → GainsFault
fault_in number kind = record { line = number; kind = kind }

abbrev pub in_line : ℕ → Result (Changes × ℤ) GainsFaultKind → Result (Changes × ℤ) GainsFault
in_line number (Ok state) = Ok state
in_line number (Err kind) = Err (fault_in number kind)

-- the state after the line with this number, unless a line before it has a fault
abbrev pub then_line : ℕ → Result (Changes × ℤ) GainsFault → List ℕ → Result (Changes × ℤ) GainsFault
then_line number (Ok state) line = in_line number (line_said state line)
then_line number (Err fault) line = Err fault

-- the text after the last line feed has to be empty
abbrev pub then_end : ℕ → Result (Changes × ℤ) GainsFault → List ℕ → Result (Changes × ℤ) GainsFault
then_end number (Ok state) [] = Ok state
then_end number (Ok state) (octet ∷ octets) = Err (fault_in number Cut)
then_end number (Err fault) rest = Err fault

-- the state after the lines from this number on; the last one has no line feed after it
abbrev pub lines_said : ℕ → Result (Changes × ℤ) GainsFault → List (List ℕ) → Result (Changes × ℤ) GainsFault
lines_said number said [] = said
lines_said number said (last ∷ []) = then_end number said last
lines_said number said (line ∷ next ∷ more) = lines_said (number + 1) (then_line number said line) (next ∷ more)

abbrev pub schedule_in : Result (Changes × ℤ) GainsFault → Result Changes GainsFault
schedule_in (Ok state) = Ok state.0
schedule_in (Err fault) = Err fault

-- the schedule that a text leads to from this one, or the text's first fault
abbrev pub schedule_after : Changes → List ℕ → Result Changes GainsFault
schedule_after schedule text = schedule_in (lines_said 1 (Ok (schedule, pos 0)) (lines_of text))
