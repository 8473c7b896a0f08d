-- A datagram's IPv4 packet (RFC 791, 3.1; RFC 768).
use Rattle.std.specs.Prelude.{◌≡◌, ◌<◌, ℕ, ◌+◌, ◌-◌, ◌*◌, ◌/◌, ◌%◌, ◌^◌, List, [], ◌∷◌, ◌++◌, length}
use Rattle.std.specs.List.{All}
use Rattle.byteorder.specs.Endian.{big_bytes}
use Rattle.pcap_file.specs.RecordedDatagram.{ArrivalView}

-- the sum of a list's words of two octets, the most significant first
unfoldable pub words_sum : List ℕ → ℕ
words_sum [] = 0
words_sum (high ∷ []) = high * 256
words_sum (high ∷ low ∷ octets) = high * 256 + low + words_sum octets

-- a sum whose carry is added to its low sixteen bits
abbrev pub carried : ℕ → ℕ
carried sum = sum % 2 ^ 16 + sum / 2 ^ 16

-- the one's complement of the one's complement sum of a header's words (RFC 1071)
abbrev pub checksum_of : List ℕ → ℕ
checksum_of octets = 65535 - carried (carried (words_sum octets))

-- an IPv4 header of five words with a checksum: no options, not to be cut into fragments, 64 hops, the protocol 17, UDP
unfoldable pub header_with : ℕ → ArrivalView → List ℕ
header_with checksum a =
    (0x45 ∷ 0 ∷ []) ++ big_bytes 2 (28 + length a.octets) ++ big_bytes 2 0 ++ big_bytes 2 0x4000
    ++ (64 ∷ 17 ∷ []) ++ big_bytes 2 checksum ++ a.source ++ a.destination

-- an IPv4 header with its own checksum, which is computed as if the field were 0
unfoldable pub header_octets : ArrivalView → List ℕ
header_octets a = header_with (checksum_of (header_with 0 a)) a

-- the addresses of a datagram: four octets each
pub record HasAddresses (a : ArrivalView) : Type 0 where
  pub source : length a.source ≡ 4
  pub source_octets : All (λ octet. octet < 256) a.source
  pub destination : length a.destination ≡ 4
  pub destination_octets : All (λ octet. octet < 256) a.destination

-- a UDP header, with no checksum
unfoldable pub udp_octets : ArrivalView → List ℕ
udp_octets a = big_bytes 2 a.source_port ++ big_bytes 2 a.destination_port ++ big_bytes 2 (8 + length a.octets) ++ big_bytes 2 0

-- both headers, and the datagram
unfoldable pub packet_octets : ArrivalView → List ℕ
packet_octets a = header_octets a ++ udp_octets a ++ a.octets
