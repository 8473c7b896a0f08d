-- The contents of a value of a configuration.
use Rattle.rtp_stream.specs.declared.stream_spec.StreamClock.{StreamClock}
use Rattle.rtp_stream.specs.declared.stream_spec.StreamClock.TheVariants.{Media, Arrival, Follow}
use Rattle.std.specs.Prelude.{ℕ, ℤ, pos, negsuc, Bool, ◌&&◌, List, [], ◌∷◌, map, codes, Option, Some, None, is_some, option_and_then, option_map, unwrap_or, if◌then◌else◌}
use Rattle.std.specs.List.{list_all}
use Rattle.std.specs.Str.{bytes_eq}
use Rattle.std.specs.declared.net.ipv4_addr.Ipv4Addr.{Ipv4Addr}
use Rattle.rtp_wire.specs.declared.encoding.Enc.{Enc}
use Rattle.rtp_wire.specs.declared.encoding.Enc.TheVariants.{L16, L24}
use Rattle.toml.specs.Data.{Data, Items, no_items, item, Members, no_members, as_array, as_integer, as_str, as_table, get_member}
use Rattle.studio_config.specs.Address.{address_of}
use Rattle.studio_config.specs.Keys.{name_of}
use Rattle.studio_config.specs.declared.config.keys.Key.{Key}
use Rattle.studio_config.specs.declared.output_clock.OutputClock.{OutputClock}
use Rattle.studio_config.specs.declared.output_clock.OutputClock.TheVariants as output_clock

-- the items of an array, one after the other
abbrev pub list_of : Items → List Data
list_of no_items = []
list_of (item d ds) = d ∷ list_of ds

-- the items of a value, none if it is not an array
abbrev pub items_in : Data → List Data
items_in d = unwrap_or (option_map list_of (as_array d)) []

-- the members of a value, none if it is not a table
abbrev pub members_in : Data → Members
members_in d = unwrap_or (as_table d) no_members

abbrev pub is_table : Data → Bool
is_table d = is_some (as_table d)

abbrev pub is_integer : Data → Bool
is_integer d = is_some (as_integer d)

-- an array whose items all pass this test
abbrev pub is_array_of : (Data → Bool) → Data → Bool
is_array_of test d = is_some (as_array d) && list_all test (items_in d)

-- an array of tables
abbrev pub are_tables : Data → Bool
are_tables d = is_array_of is_table d

-- an array of whole numbers
abbrev pub is_row : Data → Bool
is_row d = is_array_of is_integer d

-- an array of arrays of whole numbers
abbrev pub are_gains : Data → Bool
are_gains d = is_array_of is_row d

-- the tables of an array of tables
abbrev pub tables_in : Data → List Members
tables_in d = map members_in (items_in d)

-- the gain that a value is, 0 if it is not a whole number
abbrev pub gain_in : Data → ℤ
gain_in d = unwrap_or (as_integer d) (pos 0)

-- the gains of an array of whole numbers
abbrev pub row_in : Data → List ℤ
row_in d = map gain_in (items_in d)

-- the rows of an array of arrays of whole numbers
abbrev pub rows_in : Data → List (List ℤ)
rows_in d = map row_in (items_in d)

-- the value at a key
abbrev pub value_at : Members → Key → Option Data
value_at members key = get_member (name_of key) members

-- the natural number that an integer is, if it is not below 0
abbrev pub natural_of : ℤ → Option ℕ
natural_of (pos n) = Some n
natural_of (negsuc n) = None

-- the natural number that a value is, if it is one
abbrev pub natural_in : Data → Option ℕ
natural_in d = option_and_then natural_of (as_integer d)

-- the natural number at a key, if there is one
abbrev pub number_at : Members → Key → Option ℕ
number_at members key = option_and_then natural_in (value_at members key)

-- the natural number at a key, or `absent` if there is none
abbrev pub number_or : Members → Key → ℕ → ℕ
number_or members key absent = unwrap_or (number_at members key) absent

-- the text that a value is, empty if it is not a text
abbrev pub text_in : Data → List ℕ
text_in d = unwrap_or (as_str d) []

-- the text at a key, empty if there is none
abbrev pub text_at : Members → Key → List ℕ
text_at members key = unwrap_or (option_map text_in (value_at members key)) []

-- the encoding that a text names
abbrev pub encoding_of : List ℕ → Enc
encoding_of text = if bytes_eq text (codes "L16") then L16 else L24

-- the encoding that a value names, and the encoding at a key
abbrev pub encoding_in : Data → Enc
encoding_in d = encoding_of (text_in d)

abbrev pub encoding_at : Members → Key → Enc
encoding_at members key = encoding_of (text_at members key)

-- the address that a value is, if it is one, and the address at a key
abbrev pub address_in : Data → Option Ipv4Addr
address_in d = option_and_then address_of (as_str d)

abbrev pub address_at : Members → Key → Option Ipv4Addr
address_at members key = option_and_then address_in (value_at members key)

-- the clock that a text names; the media clock without its offset
abbrev pub clock_named : List ℕ → StreamClock
clock_named text = if bytes_eq text (codes "media") then Media 0 else if bytes_eq text (codes "follow") then Follow else Arrival

-- the clock of an output that a text names, and that a value names; at a key that is absent, the clock of the run
abbrev pub output_clock_named : List ℕ → OutputClock
output_clock_named text = if bytes_eq text (codes "media") then output_clock.Media else output_clock.Run

abbrev pub output_clock_in : Data → OutputClock
output_clock_in d = output_clock_named (text_in d)

abbrev pub output_clock_at : Members → Key → OutputClock
output_clock_at members key = output_clock_named (text_at members key)

-- the media clock with this offset, or another clock
abbrev pub with_offset : StreamClock → ℕ → StreamClock
with_offset (Media none) offset = Media offset
with_offset Arrival offset = Arrival
with_offset Follow offset = Follow

-- the tables at a key
abbrev pub tables_at : Members → Key → List Members
tables_at members key = unwrap_or (option_map tables_in (value_at members key)) []

-- the table at a key
abbrev pub table_at : Members → Key → Members
table_at members key = unwrap_or (option_map members_in (value_at members key)) no_members

-- the rows of gains at a key
abbrev pub gains_at : Members → Key → List (List ℤ)
gains_at members key = unwrap_or (option_map rows_in (value_at members key)) []
