-- A capture whose octets arrive piece by piece.
use Rattle.std.specs.Prelude.{◌≡◌, ◌⊎◌, ◌≤◌, ℕ, Bool, false, List, [], length, Result, Ok, Err, nat_lt, ◌%◌, ◌==◌, not, ◌&&◌, ◌||◌}
use Rattle.pcap_file.specs.declared.decode.endian.Endian.{Endian}
use Rattle.pcap_file.specs.declared.cursor.Format.{Format}
use Rattle.pcap_file.specs.declared.cursor.Format.TheVariants.{Pcap, Pcapng}
use Rattle.pcap_file.specs.declared.fault.CaptureFaultKind.{CaptureFaultKind}
use Rattle.pcap_file.specs.declared.block_parser.BlockParser.{BlockParser}
use Rattle.pcap_file.specs.declared.decode.pcap.Pcap.{Pcap as Header}
use Rattle.pcap_file.specs.Octets.{number_at}
use Rattle.pcap_file.specs.Pcap.{record_end}
use Rattle.pcap_file.specs.Section.{order_of, section_view}
use Rattle.pcap_file.specs.Capture.{Item, State, packets_from}

-- the octets held show the header of a file, whatever follows: they are as many as a header has, or the whole file
abbrev pub IsEnough : List ℕ → List ℕ → Type 0
IsEnough front rest = (24 ≤ length front) ⊎ (rest ≡ [])

-- the record that octets begin with is not whole in them
abbrev pub is_record_cut : Header → List ℕ → Bool
is_record_cut header octets = nat_lt (length octets) 16 || nat_lt (length octets) (record_end header octets)

-- the block's length field is valid, and the block is not whole in the octets
abbrev pub is_length_cut : Result Endian CaptureFaultKind → List ℕ → Bool
is_length_cut (Ok order) octets =
    (not (nat_lt (number_at order 4 4 octets) 12) && (number_at order 4 4 octets % 4 == 0)) && nat_lt (length octets) (number_at order 4 4 octets)
is_length_cut (Err kind) octets = false

-- the block that octets begin with is not whole in them
abbrev pub is_block_cut : Endian → List ℕ → Bool
is_block_cut order octets = nat_lt (length octets) 12 || is_length_cut (order_of order octets) octets

abbrev pub is_cut_as : Format → Endian → List ℕ → Bool
is_cut_as (Pcap header) order octets = is_record_cut header octets
is_cut_as Pcapng order octets = is_block_cut order octets

-- the views of the values in the code
abbrev pub is_cut_in : BlockParser → List ℕ → Bool
is_cut_in parts octets = is_cut_as parts.format parts.section.order octets

abbrev pub state_at : BlockParser → State
state_at parts = record { format = parts.format; section = section_view parts.section }

-- the items of a capture whose octets from the parser's place on are these
abbrev pub items_at : BlockParser → List ℕ → List Item
items_at parts octets = packets_from (state_at parts) parts.place octets
