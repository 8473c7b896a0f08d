-- The tables of a configuration, with a row for each key, and the first fault of a table by its rows.
use Rattle.std.specs.Prelude.{ℕ, ℤ, pos, negsuc, Bool, ◌&&◌, nat_le, List, [], ◌∷◌, length, map, codes, Option, Some, None, is_some, if◌then◌else◌}
use Rattle.std.specs.List.{list_any, list_all}
use Rattle.std.specs.Str.{bytes_eq}
use Rattle.toml.specs.Data.{Data, Members, no_members, member, as_integer, as_str}
use Rattle.studio_config.specs.Address.{address_of}
use Rattle.studio_config.specs.Keys.{name_of}
use Rattle.studio_config.specs.Values.{items_in, is_table, are_tables, are_gains, value_at}
use Rattle.studio_config.specs.declared.config.keys.Key.{Key}
use Rattle.studio_config.specs.declared.config.fault.ConfigTable.{ConfigTable}
use Rattle.studio_config.specs.declared.config.fault.SpecErrorKind.{SpecErrorKind}
use Rattle.studio_config.specs.declared.config.fault.SpecErrorKind.TheVariants.{Missing, WrongKind, OutOfRange, Unknown}
use Rattle.studio_config.specs.declared.config.fault.SpecError.{SpecError}

-- the values that a key may have
pub data Range : Type 0 where
  -- a whole number from the first number to the second
  whole : ℕ → ℕ → Range
  -- one of these texts
  one_of : List (List ℕ) → Range
  -- the text of an IPv4 address
  an_address : Range
  -- a text of at most this number of octets
  a_text : ℕ → Range
  -- a table
  a_table : Range
  -- an array of tables
  tables : Range
  -- an array of tables, whose number is from the first number to the second
  few_tables : ℕ → ℕ → Range
  -- an array of arrays of whole numbers
  gains : Range

-- the texts that name an encoding, and a clock
abbrev pub encodings : List (List ℕ)
encodings = codes "L16" ∷ codes "L24" ∷ []

abbrev pub clocks : List (List ℕ)
clocks = codes "media" ∷ codes "arrival" ∷ codes "follow" ∷ []

-- the texts that name the clock of an output
abbrev pub output_clocks : List (List ℕ)
output_clocks = codes "run" ∷ codes "media" ∷ []

-- a row of a table: a key, and the values that it may have
pub data Row : Type 0 where
  required : Key → Range → Row
  optional : Key → Range → Row

abbrev pub key_of : Row → Key
key_of (required key range) = key
key_of (optional key range) = key

-- the first of two faults
abbrev pub first_of : {E : Type 0} → Option E → Option E → Option E
first_of (Some fault) later = Some fault
first_of None later = later

-- the first of all these faults
abbrev pub first_in : {E : Type 0} → List (Option E) → Option E
first_in [] = None
first_in (fault ∷ faults) = first_of fault (first_in faults)

-- the fault of a value, by whether it has the right type
abbrev pub kind_fault : Bool → Option SpecErrorKind
kind_fault fits = if fits then None else Some WrongKind

-- the fault of a value, by whether it is in its range
abbrev pub range_fault : Bool → Option SpecErrorKind
range_fault fits = if fits then None else Some OutOfRange

-- the fault of an integer that has to be from the first number to the second
abbrev pub whole_fault : ℕ → ℕ → Option ℤ → Option SpecErrorKind
whole_fault least greatest (Some (pos n)) = range_fault (nat_le least n && nat_le n greatest)
whole_fault least greatest (Some (negsuc n)) = Some OutOfRange
whole_fault least greatest None = Some WrongKind

-- the fault of a text that has to be one of these
abbrev pub text_fault : List (List ℕ) → Option (List ℕ) → Option SpecErrorKind
text_fault texts (Some text) = range_fault (list_any (λ t. bytes_eq text t) texts)
text_fault texts None = Some WrongKind

-- the fault of a text that has to be an IPv4 address
abbrev pub address_fault : Option (List ℕ) → Option SpecErrorKind
address_fault (Some text) = range_fault (is_some (address_of text))
address_fault None = Some WrongKind

-- the fault of a text that has to have at most `most` octets
abbrev pub length_fault : ℕ → Option (List ℕ) → Option SpecErrorKind
length_fault most (Some text) = range_fault (nat_le (length text) most)
length_fault most None = Some WrongKind

-- the first fault of a value: its type, then its range
abbrev pub value_fault : Range → Data → Option SpecErrorKind
value_fault (whole least greatest) d = whole_fault least greatest (as_integer d)
value_fault (one_of texts) d = text_fault texts (as_str d)
value_fault an_address d = address_fault (as_str d)
value_fault (a_text most) d = length_fault most (as_str d)
value_fault a_table d = kind_fault (is_table d)
value_fault tables d = kind_fault (are_tables d)
value_fault (few_tables least greatest) d =
    first_of (kind_fault (are_tables d)) (range_fault (nat_le least (length (items_in d)) && nat_le (length (items_in d)) greatest))
value_fault gains d = kind_fault (are_gains d)

-- a fault of a key, in a table at this place
abbrev pub at_key : ConfigTable → Key → Option SpecErrorKind → Option SpecError
at_key place key (Some kind) = Some (record { place = place; key = Some key; kind = kind })
at_key place key None = None

-- a fault of a table itself
abbrev pub at_table : ConfigTable → Option SpecErrorKind → Option SpecError
at_table place (Some kind) = Some (record { place = place; key = None; kind = kind })
at_table place None = None

abbrev pub required_fault : Range → Option Data → Option SpecErrorKind
required_fault range (Some d) = value_fault range d
required_fault range None = Some Missing

abbrev pub optional_fault : Range → Option Data → Option SpecErrorKind
optional_fault range (Some d) = value_fault range d
optional_fault range None = None

-- the fault of a table by one row
abbrev pub row_fault : ConfigTable → Members → Row → Option SpecError
row_fault place members (required key range) = at_key place key (required_fault range (value_at members key))
row_fault place members (optional key range) = at_key place key (optional_fault range (value_at members key))

-- the first fault by these rows
abbrev pub rows_fault : ConfigTable → Members → List Row → Option SpecError
rows_fault place members rows = first_in (map (row_fault place members) rows)

-- the names of all members
abbrev pub names_of : Members → List (List ℕ)
names_of no_members = []
names_of (member name d rest) = name ∷ names_of rest

-- a name is that of one of these keys
abbrev pub is_known : List Key → List ℕ → Bool
is_known keys name = list_any (λ key. bytes_eq (name_of key) name) keys

-- the fault of a member that has none of these keys
abbrev pub unknown_fault : ConfigTable → List Key → Members → Option SpecError
unknown_fault place keys members = at_table place (if list_all (is_known keys) (names_of members) then None else Some Unknown)

-- the first fault of a table: by its rows in their order, then that of a key without a row
abbrev pub table_fault : ConfigTable → List Row → Members → Option SpecError
table_fault place rows members = first_of (rows_fault place members rows) (unknown_fault place (map key_of rows) members)
