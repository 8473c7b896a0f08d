-- The header of a link in front of an IP packet (tcpdump's registry of link-layer header types; IEEE 802.1Q, 9.3).
use Rattle.std.specs.Prelude.{◌+◌, ℕ, Bool, List, length, drop, Option, Some, None, option_map, nat_le, ◌==◌, ◌&&◌, ◌||◌, if◌then◌else◌}
use Rattle.pcap_file.specs.declared.decode.endian.Endian.{Endian}
use Rattle.pcap_file.specs.declared.decode.endian.Endian.TheVariants.{Big, Little}
use Rattle.pcap_file.specs.declared.decode.link.LinkType.{LinkType}
use Rattle.pcap_file.specs.declared.decode.link.LinkType.TheVariants.{Null, Ethernet, Raw, Loop, LinuxSll, LinuxSll2, Other}
use Rattle.pcap_file.specs.Octets.{number_at}

-- the link types by their numbers in the registry
abbrev pub link_of : ℕ → LinkType
link_of number =
    if number == 0 then Null
    else (if number == 1 then Ethernet
    else (if number == 101 then Raw
    else (if number == 108 then Loop
    else (if number == 113 then LinuxSll
    else (if number == 228 then Raw
    else (if number == 276 then LinuxSll2 else Other))))))

-- there is this type of two octets at this place
abbrev pub has_type : List ℕ → ℕ → ℕ → Bool
has_type frame place kind = nat_le (place + 2) (length frame) && (number_at Big 2 place frame == kind)

-- there is a VLAN tag of four octets at this place: a customer's or a service's
abbrev pub has_tag : List ℕ → ℕ → Bool
has_tag frame place = has_type frame place 0x8100 || has_type frame place 0x88a8

-- the place of an Ethernet frame's type: behind two addresses of six octets and at most two tags
abbrev pub type_place : List ℕ → ℕ
type_place frame = if has_tag frame 12 then (if has_tag frame 16 then 20 else 16) else 12

-- the first word is the family of IPv4, 2, in a byte order
abbrev pub has_family : Endian → List ℕ → Bool
has_family order frame = nat_le 4 (length frame) && (number_at order 4 0 frame == 2)

-- the place at which the IPv4 packet of a frame begins, if the link's header announces one by type 0x0800 or its family
unfoldable pub ip_place : LinkType → List ℕ → Option ℕ
ip_place Null frame = if has_family Big frame || has_family Little frame then Some 4 else None
ip_place Ethernet frame = if has_type frame (type_place frame) 0x0800 then Some (type_place frame + 2) else None
ip_place Raw frame = Some 0
ip_place Loop frame = if has_family Big frame then Some 4 else None
ip_place LinuxSll frame = if has_type frame 14 0x0800 then Some 16 else None
ip_place LinuxSll2 frame = if nat_le 20 (length frame) && has_type frame 0 0x0800 then Some 20 else None
ip_place Other frame = None

-- the octets from the IPv4 packet of a frame on, to the end of the frame
abbrev pub ip_octets : LinkType → List ℕ → Option (List ℕ)
ip_octets link frame = option_map (λ place. drop place frame) (ip_place link frame)
