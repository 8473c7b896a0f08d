-- The change of gains that a line specifies.
use Rattle.std.specs.Prelude.{◌≡◌, ℕ, zero, suc, ◌+◌, ◌*◌, ◌^◌, ◌&&◌, not, nat_lt, nat_le, Bool, true, ℤ, pos, List, [], ◌∷◌, length, set, codes, Result, Ok, Err, if◌then◌else◌}
use Rattle.std.specs.Int.RustNames.{int_lt, unsigned_abs}
use Rattle.std.specs.Str.{bytes_eq}
use Rattle.gain_mix.specs.Changes.{Changes, matrix_at}
use Rattle.gain_mix.specs.Gain.{ins_of, rows_of}
use Rattle.gain_mix.specs.Matrix.{has_range}
use Rattle.studio_run.specs.GainsNumbers.{numbers_of}
use Rattle.studio_run.specs.declared.gains.fault.GainsFaultKind.{GainsFaultKind}
use Rattle.studio_run.specs.declared.gains.fault.GainsFaultKind.TheVariants.{Word, Fields, Range}

-- a time from 0 to 2 ^ 60
abbrev pub is_time : ℤ → Bool
is_time at = not (int_lt at (pos 0)) && not (int_lt (pos (2 ^ 60)) at)

-- the number is that of one of `count` channels, from 0 on
abbrev pub is_channel : ℕ → ℤ → Bool
is_channel count number = not (int_lt number (pos 0)) && nat_lt (unsigned_abs number) count

-- a gain from -1,048,576 to 1,048,576
abbrev pub is_gain : ℤ → Bool
is_gain gain = nat_le (unsigned_abs gain) 1048576

-- rows of gains, with the gain from this input to this output replaced
abbrev pub with_gain : List (List ℤ) → ℕ → ℕ → ℤ → List (List ℤ)
with_gain [] output input gain = []
with_gain (row ∷ rows) zero input gain = set row input gain ∷ rows
with_gain (row ∷ rows) (suc output) input gain = row ∷ with_gain rows output input gain

-- a change of one gain, specified by a time, an output, an input and the gain; the other gains are those in force at
-- that time
abbrev pub one_gain : Changes → List ℤ → Result (ℤ × List (List ℤ)) GainsFaultKind
one_gain schedule (at ∷ output ∷ input ∷ gain ∷ []) =
    if is_time at && is_channel (length schedule.first) output && is_channel (ins_of schedule.first) input && is_gain gain
    then Ok (at, with_gain (matrix_at schedule at) (unsigned_abs output) (unsigned_abs input) gain)
    else Err Range
one_gain schedule _ = Err Fields

-- a change of all gains, specified by a time and the gains, row by row
abbrev pub all_gains : Changes → List ℤ → Result (ℤ × List (List ℤ)) GainsFaultKind
all_gains schedule [] = Err Fields
all_gains schedule (at ∷ gains) =
    if is_time at && has_range gains then Ok (at, rows_of (ins_of schedule.first) (length schedule.first) gains) else Err Range

abbrev pub then_said : (List ℤ → Result (ℤ × List (List ℤ)) GainsFaultKind) → Result (List ℤ) GainsFaultKind → Result (ℤ × List (List ℤ)) GainsFaultKind
then_said said (Ok numbers) = said numbers
then_said said (Err kind) = Err kind

-- a change at a time that a schedule may have, to a matrix of this schedule's shape
pub record IsChange (schedule : Changes) (change : ℤ × List (List ℤ)) : Type 0 where
  pub time : is_time change.0 ≡ true
  pub outs : length change.1 ≡ length schedule.first
  pub ins : ins_of change.1 ≡ ins_of schedule.first

-- the change that the fields of a line specify; the first field is the line's word
abbrev pub fields_said : Changes → List (List ℕ) → Result (ℤ × List (List ℤ)) GainsFaultKind
fields_said schedule [] = Err Word
fields_said schedule (word ∷ fields) =
    if bytes_eq word (codes "gain") then then_said (one_gain schedule) (numbers_of 4 fields)
    else if bytes_eq word (codes "gains") then then_said (all_gains schedule) (numbers_of (length schedule.first * ins_of schedule.first + 1) fields)
    else Err Word
