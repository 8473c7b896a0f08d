-- The texts of faults, and the form in which C receives a text.
use Rattle.std.specs.Prelude.{ℕ, ℤ, pos, int_le, List, [], ◌∷◌, ◌++◌, length, take, drop, min, codes, if◌then◌else◌}
use Rattle.std.specs.Ordering.{int_eq}
use Rattle.darbexum_c.specs.Codes as code_is

-- the text of a number that is no fault's code
abbrev pub unnamed_text_of : ℤ → List ℕ
unnamed_text_of code = if int_le (pos 0) code then codes "no fault" else codes "unknown code"

-- the text of a code
abbrev pub fault_text_of : ℤ → List ℕ
fault_text_of code =
    if int_eq code code_is.no_engine then codes "the handle has no engine"
    else if int_eq code code_is.unfinished then codes "the turn isn't finished"
    else if int_eq code code_is.no_stream then codes "there is no such stream"
    else if int_eq code code_is.no_path then codes "the stream lacks the path"
    else if int_eq code code_is.full then codes "the engine has taken 2^62 events"
    else if int_eq code code_is.went_back then codes "the clock went back"
    else if int_eq code code_is.too_far then codes "the clock is past 2^60"
    else if int_eq code code_is.closed then codes "the engine is closed"
    else if int_eq code code_is.short_room then codes "the room is too short"
    else if int_eq code code_is.no_toml then codes "the configuration is not TOML, or has more than 1048576 octets"
    else if int_eq code code_is.no_studio then codes "the configuration describes no studio"
    else if int_eq code code_is.no_memory then codes "out of memory"
    else if int_eq code code_is.none then codes "there is none"
    else if int_eq code code_is.bad_shape then codes "the gains are not one for each output and input channel"
    else if int_eq code code_is.bad_gain then codes "a gain is below -1048576 or above 1048576"
    else if int_eq code code_is.bad_time then codes "the time is before the next block, or past 2^60"
    else if int_eq code code_is.too_many then codes "64 changes before the time are still to come"
    else unnamed_text_of code

-- the buffer after a text was written to its start: as much of the text as fits before a 0, the 0, and what was behind it
abbrev pub buffer_after : List ℕ → List ℕ → List ℕ
buffer_after text [] = []
buffer_after text (octet ∷ rest) = take (length rest) text ++ 0 ∷ drop (min (length text) (length rest)) rest
