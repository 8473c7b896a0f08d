-- The pcap format (draft-ietf-opsawg-pcap, File Header and Packet Record).
use Rattle.std.specs.Prelude.{◌+◌, ◌*◌, ◌%◌, ◌^◌, ℕ, List, length, slice_range, Option, Some, None, Result, Ok, Err, nat_lt, ◌==◌, not, ◌||◌, if◌then◌else◌}
use Rattle.pcap_file.specs.declared.decode.endian.Endian.{Endian}
use Rattle.pcap_file.specs.declared.decode.endian.Endian.TheVariants.{Big, Little}
use Rattle.pcap_file.specs.declared.decode.pcap.Pcap.{Pcap}
use Rattle.pcap_file.specs.declared.decode.pcap.TimeUnit.{TimeUnit}
use Rattle.pcap_file.specs.declared.decode.pcap.TimeUnit.TheVariants.{Microsecond, Nanosecond}
use Rattle.pcap_file.specs.declared.fault.CaptureFaultKind.{CaptureFaultKind}
use Rattle.pcap_file.specs.declared.fault.CaptureFaultKind.TheVariants as fault
use Rattle.pcap_file.specs.Octets.{number_at}
use Rattle.pcap_file.specs.LinkType.{link_of}
use Rattle.pcap_file.specs.Packet.{packet_in}
use Rattle.pcap_file.specs.CaptureBlock.{PartView}

-- the nanoseconds in a smaller unit
abbrev pub nanoseconds_in : TimeUnit → ℕ
nanoseconds_in Microsecond = 1000
nanoseconds_in Nanosecond = 1

-- the byte order and the smaller unit of times, by the first four octets
abbrev pub magic_of : List ℕ → Option (Endian × TimeUnit)
magic_of octets =
    if number_at Big 4 0 octets == 0xa1b2c3d4 then Some (Big, Microsecond)
    else (if number_at Little 4 0 octets == 0xa1b2c3d4 then Some (Little, Microsecond)
    else (if number_at Big 4 0 octets == 0xa1b23c4d then Some (Big, Nanosecond)
    else (if number_at Little 4 0 octets == 0xa1b23c4d then Some (Little, Nanosecond) else None)))

-- a file's header of 24 octets, once its order is known: the version is 2.4, and its last field ends in the link's
-- number
unfoldable pub header_in : List ℕ → Option (Endian × TimeUnit) → Result Pcap CaptureFaultKind
header_in octets None = Err fault.Format
header_in octets (Some (order, unit)) =
    if nat_lt (length octets) 24 then Err fault.Truncated
    else (if not (number_at order 2 4 octets == 2) || not (number_at order 2 6 octets == 4) then Err fault.Version
    else Ok (record { order = order; unit = unit; link = link_of (number_at order 4 20 octets % 2 ^ 16) }))

-- the header that octets begin with
unfoldable pub pcap_of : List ℕ → Result Pcap CaptureFaultKind
pcap_of octets = if nat_lt (length octets) 4 then Err fault.Format else header_in octets (magic_of octets)

-- a record's time in nanoseconds: its seconds, and its smaller units
abbrev pub record_time : Pcap → List ℕ → ℕ
record_time pcap octets = number_at pcap.order 4 0 octets * 1_000_000_000 + number_at pcap.order 4 4 octets * nanoseconds_in pcap.unit

-- the place where the record ends: behind its header of 16 octets and the captured part of the packet
abbrev pub record_end : Pcap → List ℕ → ℕ
record_end pcap octets = 16 + number_at pcap.order 4 8 octets

-- the packet record that octets begin with
unfoldable pub record_of : Pcap → List ℕ → Result PartView CaptureFaultKind
record_of pcap octets =
    if nat_lt (length octets) 16 then Err fault.Truncated
    else (if nat_lt (length octets) (record_end pcap octets) then Err fault.Truncated
    else Ok (record {
      len = record_end pcap octets;
      packet = packet_in pcap.link (Some (record_time pcap octets)) 0 (slice_range octets 16 (record_end pcap octets));
      mark = None;
    }))
