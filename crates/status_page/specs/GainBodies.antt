-- The change of gains in a request's body.
use Rattle.std.specs.Prelude.{◌≡◌, ℕ, suc, ◌*◌, ◌==◌, ◌&&◌, Bool, List, [], ◌∷◌, length, map, flat_map, codes, ℤ, pos, Option, Some, None, option_map, option_and_then, is_some, unwrap_or, Result, Ok, Err, if◌then◌else◌}
use Rattle.std.specs.List.{list_all}
use Rattle.std.specs.Str.{is_utf8}
use Rattle.json.specs.Json.{Json, null, boolean, number, string, array, object, Items, no_items, item, Members, no_members, member, document}
use Rattle.json.specs.Find.{get}
use Rattle.studio_io.specs.declared.gain_source.GainAction.{GainAction}
use Rattle.studio_io.specs.declared.gain_source.GainAction.TheVariants.{SetAll, SetOne, Show}
use Rattle.studio_io.specs.declared.gain_source.GainRequest.{GainRequest}
use Rattle.status_page.specs.Integers.{gain_of, index_of, integer_in}
use Rattle.status_page.specs.declared.control.fault.ControlFault.{ControlFault}
use Rattle.status_page.specs.declared.control.body.MatrixCell.{MatrixCell}
use Rattle.status_page.specs.declared.control.fault.ControlFault.TheVariants.{Body, Shape, Range}

-- items as a list
abbrev pub list_of : Items → List Json
list_of no_items = []
list_of (item value rest) = value ∷ list_of rest

-- the items of a JSON value; a value that is no array has none
abbrev pub items_in : Json → List Json
items_in null = []
items_in (boolean b) = []
items_in (number text) = []
items_in (string text) = []
items_in (array found) = list_of found
items_in (object _) = []

abbrev pub count_of : Members → ℕ
count_of no_members = 0
count_of (member key value rest) = suc (count_of rest)

-- the number of members of a JSON value; a value that is no object has none
abbrev pub members_in : Json → ℕ
members_in null = 0
members_in (boolean b) = 0
members_in (number text) = 0
members_in (string text) = 0
members_in (array _) = 0
members_in (object found) = count_of found

-- a row has a value for each input
abbrev pub is_row : ℕ → Json → Bool
is_row ins row = length (items_in row) == ins

abbrev pub are_rows : ℕ → List Json → Bool
are_rows ins rows = list_all (is_row ins) rows

-- there is a row for each output channel
abbrev pub has_rows : ℕ → ℕ → Json → Bool
has_rows outs ins rows = (length (items_in rows) == outs) && are_rows ins (items_in rows)

abbrev pub is_gain : Json → Bool
is_gain value = is_some (gain_of value)

abbrev pub are_gains : List Json → Bool
are_gains values = list_all is_gain values

abbrev pub are_gain_rows : List Json → Bool
are_gain_rows rows = list_all (λ row. are_gains (items_in row)) rows

-- the gain of a JSON value; a value that is no gain counts as 0
abbrev pub gain_or_zero : Json → ℤ
gain_or_zero value = unwrap_or (gain_of value) (pos 0)

abbrev pub gains_in_row : Json → List ℤ
gains_in_row row = map gain_or_zero (items_in row)

-- the gains of these rows, row by row
abbrev pub gains_in_rows : List Json → List ℤ
gains_in_rows rows = flat_map gains_in_row rows

-- the gains behind the key `gains`, row by row
abbrev pub gains_in : Option Json → List ℤ
gains_in None = []
gains_in (Some rows) = gains_in_rows (items_in rows)

-- the gains of a change of all of them
abbrev pub gains_of : Json → List ℤ
gains_of value = gains_in (get (codes "gains") value)

-- a time: an integer, or null for the start of the next block
abbrev pub time_in : Json → Option (Option ℤ)
time_in null = Some None
time_in (boolean b) = None
time_in (number text) = option_map Some (integer_in text)
time_in (string text) = None
time_in (array _) = None
time_in (object _) = None

-- the time behind the key `at`
abbrev pub time_of : Json → Option (Option ℤ)
time_of value = option_and_then time_in (get (codes "at") value)

abbrev pub cell_at : Option ℕ → Option ℕ → Option MatrixCell
cell_at None input = None
cell_at (Some output) None = None
cell_at (Some output) (Some input) = Some (record { output = output; input = input })

-- a cell of the matrix: two numbers, of an output channel and of an input
abbrev pub cell_in : List Json → Option MatrixCell
cell_in [] = None
cell_in (output ∷ []) = None
cell_in (output ∷ input ∷ []) = cell_at (index_of output) (index_of input)
cell_in (output ∷ input ∷ more ∷ rest) = None

-- the cell behind the key `cell`
abbrev pub cell_of : Json → Option MatrixCell
cell_of value = option_and_then (λ cell. cell_in (items_in cell)) (get (codes "cell") value)

-- a change of all gains: first the fault of the shape, then that of the range
abbrev pub change_of_rows : ℕ → ℕ → Option ℤ → Json → Result GainRequest ControlFault
change_of_rows outs ins at rows =
    if has_rows outs ins rows then if are_gain_rows (items_in rows) then Ok (record { at = at; action = SetAll }) else Err Range else Err Shape

abbrev pub change_of_all : ℕ → ℕ → Option (Option ℤ) → Option Json → Result GainRequest ControlFault
change_of_all outs ins None rows = Err Body
change_of_all outs ins (Some at) None = Err Body
change_of_all outs ins (Some at) (Some rows) = change_of_rows outs ins at rows

-- a change of one gain
abbrev pub change_of_gain : Option ℤ → MatrixCell → Option ℤ → Result GainRequest ControlFault
change_of_gain at cell None = Err Range
change_of_gain at cell (Some gain) = Ok (record { at = at; action = SetOne cell.output cell.input gain })

abbrev pub change_of_one : Option (Option ℤ) → Option MatrixCell → Option Json → Result GainRequest ControlFault
change_of_one None cell gain = Err Body
change_of_one (Some at) None gain = Err Body
change_of_one (Some at) (Some cell) None = Err Body
change_of_one (Some at) (Some cell) (Some gain) = change_of_gain at cell (gain_of gain)

-- the change in a JSON value: an object with `at` and `gains`, or with `at`, `cell` and `gain`
abbrev pub change_in : ℕ → ℕ → Json → Result GainRequest ControlFault
change_in outs ins value =
    if members_in value == 2 then change_of_all outs ins (time_of value) (get (codes "gains") value)
    else (if members_in value == 3 then change_of_one (time_of value) (cell_of value) (get (codes "gain") value)
    else Err Body)

-- the JSON value of a body, which is in UTF-8
unfoldable pub value_of : List ℕ → Option Json
value_of body = if is_utf8 body then document body else None

-- the change in a body
abbrev pub change_of : ℕ → ℕ → Option Json → Result GainRequest ControlFault
change_of outs ins None = Err Body
change_of outs ins (Some value) = change_in outs ins value

-- all gains in a body
abbrev pub wanted_by : Option Json → List ℤ
wanted_by None = []
wanted_by (Some value) = gains_of value

-- the buffer of a request: all gains in the body, or else a place for each gain of the matrix
abbrev pub IsBuffer : ℕ → ℕ → Option Json → GainAction → List ℤ → Type 0
IsBuffer outs ins value SetAll gains = gains ≡ wanted_by value
IsBuffer outs ins value (SetOne output input gain) gains = length gains ≡ outs * ins
IsBuffer outs ins value Show gains = length gains ≡ outs * ins
