-- The block of a datagram is read as its packet.
use Rattle.std.proofs.Common.{◌≡◌, ◌<◌, ◌≤◌, ◌+◌, ◌*◌, ◌/◌, ◌%◌, ◌^◌, ℕ, List, ◌++◌, length, replicate, slice_get, slice_range, Option, Some, None, option_map, Ok, refl, sym, ap, ◌∙◌, arith, append_assoc, length-append}
use Rattle.std.proofs.lemmas.List.{length-replicate}
use Rattle.byteorder.specs.Endian.{little_bytes}
use Rattle.pcap_file.specs.declared.decode.interface.Interface.{Interface}
use Rattle.pcap_file.specs.declared.decode.record_mark.RecordMark.{RecordMark}
use Rattle.pcap_file.specs.declared.decode.endian.Endian.TheVariants.{Little}
use Rattle.pcap_file.specs.Chain.{and_then}
use Rattle.pcap_file.specs.Octets.{number_at}
use Rattle.pcap_file.specs.Interface.{time_of, time_units}
use Rattle.pcap_file.specs.UdpPacket.{Ipv4View, ipv4_of}
use Rattle.pcap_file.specs.Mark.{mark_of}
use Rattle.pcap_file.specs.Packet.{PacketView, packet_in}
use Rattle.pcap_file.specs.LinkType.{ip_place}
use Rattle.pcap_file.specs.Section.{SectionView, content_as, content_of, enhanced_of, interface_at, order_of, same_section, with_length}
use Rattle.pcap_file.specs.RecordedDatagram.{ArrivalView}
use Rattle.pcap_file.specs.Blocks.{block_octets, datagram_block, datagram_head, padded}
use Rattle.pcap_file.specs.IpHeader.{checksum_of, header_octets, header_with, udp_octets}
use Rattle.pcap_file.specs.WrittenRecord.{IsArrival, packet_of}
use Rattle.pcap_file.proofs.ClosingLemmas.{time_raw, units_by}
use Rattle.pcap_file.proofs.FrameLemmas.{ipv4_back}
use Rattle.pcap_file.proofs.WriteInterfaceLemmas.{raw}
use Rattle.pcap_file.proofs.OctetLemmas.{midst, number_behind}
use Rattle.pcap_file.proofs.WholeLemmas.{IsWhole, Tells, not_below, whole_block}

-- the pieces of the block: the octets before the packet, the packet, and the octets behind it
abbrev begin : ℕ → ArrivalView → List ℕ
begin len a = little_bytes 4 6 ++ little_bytes 4 len ++ little_bytes 4 a.interface

abbrev high : ArrivalView → List ℕ
high a = little_bytes 4 (a.nanoseconds / 2 ^ 32)

abbrev low : ArrivalView → List ℕ
low a = little_bytes 4 (a.nanoseconds % 2 ^ 32)

abbrev count : ArrivalView → List ℕ
count a = little_bytes 4 (28 + length a.octets)

abbrev packet : ArrivalView → List ℕ
packet a = header_octets a ++ udp_octets a ++ a.octets

abbrev pad : ArrivalView → List ℕ
pad a = replicate (3 * length a.octets % 4) 0

abbrev held : ArrivalView → List ℕ
held a = datagram_head a ++ padded a.octets

abbrev len_of : ArrivalView → ℕ
len_of a = 12 + length (held a)

arrange : (h u o z m : List ℕ) → h ++ u ++ (o ++ z) ++ m ≡ h ++ u ++ o ++ (z ++ m)
arrange h u o z m =
    append_assoc (h ++ u) (o ++ z) m ∙ ap (λ l. h ++ u ++ l) (append_assoc o z m) ∙ sym (append_assoc (h ++ u) o (z ++ m))

abbrev rest : ArrivalView → List ℕ
rest a = packet a ++ (pad a ++ little_bytes 4 (len_of a))

pieces : (a : ArrivalView) → datagram_block a ≡ (begin (len_of a) a ++ high a ++ low a ++ count a ++ count a) ++ rest a
unfolding datagram_block block_octets datagram_head padded
pieces a = ap (λ l. (begin (len_of a) a ++ high a ++ low a ++ count a ++ count a) ++ l) (arrange (header_octets a) (udp_octets a) a.octets (pad a) (little_bytes 4 (len_of a)))

size : (k : ℕ) (a : ArrivalView) → IsArrival k a → length (held a) ≡ 48 + (length a.octets + 3 * length a.octets % 4)
unfolding datagram_head padded header_octets header_with udp_octets
size k a is =
    omega (
      arith,
      is.source,
      is.destination,
      length-append (datagram_head a) (padded a.octets),
      length-append a.octets (pad a),
      length-replicate {A = ℕ} (3 * length a.octets % 4) 0,
      length-append (a.source ++ a.destination) (udp_octets a),
      length-append a.source a.destination,
    )

whole_datagram : (k : ℕ) (a : ArrivalView) → IsArrival k a → IsWhole (datagram_block a)
unfolding datagram_block
whole_datagram k a is = whole_block 6 (held a) (omega (arith, size k a is)) (omega (arith, size k a is, is.octets))

block_size : (k : ℕ) (a : ArrivalView) → IsArrival k a → length (datagram_block a) ≡ 60 + (length a.octets + 3 * length a.octets % 4)
unfolding datagram_block block_octets
block_size k a is =
    omega (arith, size k a is, length-append (little_bytes 4 6 ++ little_bytes 4 (len_of a) ++ held a) (little_bytes 4 (len_of a)), length-append (little_bytes 4 6 ++ little_bytes 4 (len_of a)) (held a))

order_datagram : (a : ArrivalView) → order_of Little (datagram_block a) ≡ Ok Little
unfolding order_of number_at datagram_block block_octets
order_datagram a = refl

kind_datagram : (a : ArrivalView) → number_at Little 4 0 (datagram_block a) ≡ 6
unfolding number_at datagram_block block_octets
kind_datagram a = refl

number_datagram : (a : ArrivalView) → a.interface < 2 ^ 32 → number_at Little 4 8 (datagram_block a) ≡ a.interface
number_datagram a fits =
    number_behind 4 8 a.interface (little_bytes 4 6 ++ little_bytes 4 (len_of a)) (high a ++ (low a ++ (count a ++ (count a ++ rest a)))) (datagram_block a) (pieces a) refl fits

captured_datagram : (a : ArrivalView) → length a.octets ≤ 32784 → number_at Little 4 20 (datagram_block a) ≡ 28 + length a.octets
captured_datagram a few =
    number_behind 4 20 (28 + length a.octets) (begin (len_of a) a ++ high a ++ low a) (count a ++ rest a) (datagram_block a) (pieces a) refl (omega (arith, few))

units_datagram : (a : ArrivalView) → a.nanoseconds < 2 ^ 64 → time_units Little (datagram_block a) ≡ a.nanoseconds
units_datagram a fits = units_by a.nanoseconds (datagram_block a) (begin (len_of a) a) (count a ++ (count a ++ rest a)) fits (pieces a) refl

packet_size : (k : ℕ) (a : ArrivalView) → IsArrival k a → length (packet a) ≡ 28 + length a.octets
unfolding header_octets header_with udp_octets
packet_size k a is =
    omega (arith, is.source, is.destination, length-append (a.source ++ a.destination ++ udp_octets a) a.octets, length-append (a.source ++ a.destination) (udp_octets a), length-append a.source a.destination)

frame_datagram : (k : ℕ) (a : ArrivalView) → IsArrival k a → slice_range (datagram_block a) 28 (28 + (28 + length a.octets)) ≡ packet a
frame_datagram k a is =
    midst 28 (28 + (28 + length a.octets)) (begin (len_of a) a ++ high a ++ low a ++ count a ++ count a) (packet a) (pad a ++ little_bytes 4 (len_of a)) (datagram_block a) (pieces a) refl
    (omega (arith, packet_size k a is))

-- the packet in a frame of an interface
packet_raw : (time : Option ℕ) (i : ℕ) (frame : List ℕ) (ip : Ipv4View) → ipv4_of frame ≡ Some ip → packet_in raw.link time i frame ≡ Some (record { time = time; interface = i; ip = ip })
unfolding packet_in ip_place raw
packet_raw time i frame ip is = ap (option_map (λ (v : Ipv4View). record { time = time; interface = i; ip = v })) is

enhances : (interfaces : List Interface) (block frame : List ℕ) (i ns captured : ℕ) (view : PacketView) → 32 ≤ length block → number_at Little 4 8 block ≡ i → slice_get interfaces i ≡ Some raw
    → number_at Little 4 20 block ≡ captured → 32 + captured ≤ length block → time_units Little block ≡ ns → time_of raw ns ≡ Some ns
    → slice_range block 28 (28 + captured) ≡ frame → packet_in raw.link (Some ns) i frame ≡ Some view
    → enhanced_of (record { order = Little; interfaces = interfaces }) block ≡ Ok (Some view)
unfolding enhanced_of interface_at
enhances interfaces block frame i ns captured view long number found said fits units time is holds =
    rw (not_below (length block) 32 long, number, found, said, not_below (length block) (32 + captured) fits, units, time)
    (ap (λ m. Ok (packet_in raw.link (Some ns) m (slice_range block 28 (28 + number_at Little 4 20 block)))) number
    ∙ ap (λ m. Ok (packet_in raw.link (Some ns) i (slice_range block 28 (28 + m)))) said
    ∙ ap (λ f. Ok (packet_in raw.link (Some ns) i f)) is ∙ ap (λ p. Ok p) holds)

content_enhanced : (interfaces : List Interface) (block : List ℕ) (view : PacketView) → number_at Little 4 0 block ≡ 6 → enhanced_of (record { order = Little; interfaces = interfaces }) block ≡ Ok (Some view)
    → content_of (record { order = Little; interfaces = interfaces }) block ≡ Ok (record { packet = Some view; section = record { order = Little; interfaces = interfaces } })
unfolding content_as
content_enhanced interfaces block view kind is =
    let section : SectionView = record { order = Little; interfaces = interfaces } in
    rw kind (ap (λ r. and_then r (same_section section)) is)

unmarked : (interfaces : List Interface) (block : List ℕ) → number_at Little 4 0 block ≡ 6 → mark_of Little interfaces block ≡ None
unmarked interfaces block kind = rw kind refl

pub tells_datagram : (interfaces : List Interface) (k : ℕ) (a : ArrivalView) → IsArrival k a → k ≤ 65 → slice_get interfaces a.interface ≡ Some raw
    → Tells Little interfaces interfaces (datagram_block a) (Some (packet_of a)) None
unfolding header_octets
tells_datagram interfaces k a is few found =
    let block : List ℕ = datagram_block a in
    let bytes = block_size k a is in
    let ip = packet_raw (Some a.nanoseconds) a.interface (packet a) (packet_of a).ip (ipv4_back k (checksum_of (header_with 0 a)) a is) in
    let enhanced = enhances interfaces block (packet a) a.interface a.nanoseconds (28 + length a.octets) (packet_of a) (omega (arith, bytes))
    (number_datagram a (omega (arith, is.interface, few))) found (captured_datagram a is.octets) (omega (arith, bytes)) (units_datagram a is.nanoseconds) (time_raw a.nanoseconds is.nanoseconds)
    (frame_datagram k a is) ip in
    record {
      order_is = order_datagram a;
      whole = whole_datagram k a is;
      holds = ap (λ r. and_then r (with_length (length block) block)) (content_enhanced interfaces block (packet_of a) (kind_datagram a) enhanced)
          ∙ ap (λ (m : Option RecordMark). Ok (record { part = record { len = length block; packet = Some (packet_of a); mark = m }; section = record { order = Little; interfaces = interfaces } }))
          (unmarked interfaces block (kind_datagram a));
    }
