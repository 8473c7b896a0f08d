-- Interfaces of a section, and the times of their packets (pcapng, Interface Description Block).
use Rattle.std.specs.Prelude.{◌+◌, ◌-◌, ◌*◌, ◌/◌, ◌^◌, ℕ, List, length, slice_index, slice_range, Option, Some, None, Result, Ok, Err, nat_lt, ◌==◌, ◌&&◌, if◌then◌else◌, ℤ, pos, ◌+ℤ◌, ◌*ℤ◌, int_le, int_lt, unsigned_abs}
use Rattle.std.specs.Int.{w64, cast_signed}
use Rattle.pcap_file.specs.declared.decode.endian.Endian.{Endian}
use Rattle.pcap_file.specs.declared.decode.interface.Interface.{Interface}
use Rattle.pcap_file.specs.declared.fault.CaptureFaultKind.{CaptureFaultKind}
use Rattle.pcap_file.specs.declared.fault.CaptureFaultKind.TheVariants as fault
use Rattle.pcap_file.specs.Octets.{number_at}
use Rattle.pcap_file.specs.LinkType.{link_of}
use Rattle.pcap_file.specs.Options.{option_of}
use Rattle.pcap_file.specs.Chain.{and_then}

-- the octet of if_tsresol, or 6
abbrev pub resolution_value : Option (List ℕ) → Result ℕ CaptureFaultKind
resolution_value None = Ok 6
resolution_value (Some value) = if length value == 1 then Ok (slice_index value 0) else Err fault.Options

-- the signed number of if_tsoffset, or 0
abbrev pub offset_value : Endian → Option (List ℕ) → Result ℤ CaptureFaultKind
offset_value order None = Ok (pos 0)
offset_value order (Some value) = if length value == 8 then Ok (cast_signed w64 (number_at order 8 0 value)) else Err fault.Options

unfoldable pub resolution_of : Endian → List ℕ → Result ℕ CaptureFaultKind
resolution_of order options = and_then (option_of order 9 options) resolution_value

unfoldable pub offset_of : Endian → List ℕ → Result ℤ CaptureFaultKind
offset_of order options = and_then (option_of order 14 options) (offset_value order)

-- the options of an interface's description, between its fixed fields and the length at its end
abbrev pub interface_options : List ℕ → List ℕ
interface_options block = slice_range block 16 (length block - 4)

-- the interface that a whole block describes
unfoldable pub interface_of : Endian → List ℕ → Result Interface CaptureFaultKind
interface_of order block =
    if nat_lt (length block) 20 then Err fault.Length
    else and_then (resolution_of order (interface_options block)) (λ resolution.
    and_then (offset_of order (interface_options block)) (λ offset.
    Ok (record {
      link = link_of (number_at order 2 8 block);
      limit = number_at order 4 12 block;
      resolution = resolution;
      offset = offset;
    })))

-- the number of units in a second: a power of ten, or of two if the highest bit of the resolution is set
abbrev pub units_per_second : ℕ → ℕ
units_per_second resolution = if nat_lt resolution 128 then 10 ^ resolution else 2 ^ (resolution - 128)

-- the time of a block in its interface's units: two words behind twelve octets, the high one first
abbrev pub time_units : Endian → List ℕ → ℕ
time_units order block = number_at order 4 12 block * 2 ^ 32 + number_at order 4 16 block

-- the nanoseconds since 1970 of this many units, rounded down
abbrev pub nanoseconds_of : Interface → ℕ → ℤ
nanoseconds_of interface units =
    pos (units * 1_000_000_000 / units_per_second interface.resolution) +ℤ (interface.offset *ℤ pos 1_000_000_000)

-- the nanoseconds since 1970 of this many units, if 64 bits hold them
unfoldable pub time_of : Interface → ℕ → Option ℕ
time_of interface units =
    if int_le (pos 0) (nanoseconds_of interface units) && int_lt (nanoseconds_of interface units) (pos (2 ^ 64))
    then Some (unsigned_abs (nanoseconds_of interface units))
    else None
