-- The IPv4 packet of a datagram is read back as the datagram.
use Rattle.std.proofs.Common.{◌≡◌, ◌<◌, ◌≤◌, ◌+◌, ◌^◌, ℕ, List, [], ◌∷◌, ◌++◌, length, get_or, slice_range, Some, nat_le, true, refl, sym, ap, ◌∙◌, arith, append_assoc, append-nil, length-append}
use Rattle.std.proofs.lemmas.Bool.Decides.{nat_tests}
use Rattle.byteorder.specs.Endian.{big_bytes}
use Rattle.pcap_file.specs.declared.decode.endian.Endian.TheVariants.{Big}
use Rattle.pcap_file.specs.Octets.{number_at}
use Rattle.pcap_file.specs.UdpPacket.{UdpView, Whole, address_at, body_of, has_udp_header, ipv4_of, udp_of}
use Rattle.pcap_file.specs.RecordedDatagram.{ArrivalView}
use Rattle.pcap_file.specs.IpHeader.{header_with, udp_octets}
use Rattle.pcap_file.specs.WrittenRecord.{IsArrival, packet_of}
use Rattle.pcap_file.proofs.OctetLemmas.{big_behind, midst}
use Rattle.pcap_file.proofs.WholeLemmas.{not_below}

-- the four octets of an address
four : (xs : List ℕ) → length xs ≡ 4 → (a : ℕ) × (b : ℕ) × (c : ℕ) × (d : ℕ) × (xs ≡ a ∷ b ∷ c ∷ d ∷ [])
four [] e = absurd (omega arith)
four (a ∷ []) e = absurd (omega arith)
four (a ∷ b ∷ []) e = absurd (omega arith)
four (a ∷ b ∷ c ∷ []) e = absurd (omega arith)
four (a ∷ b ∷ c ∷ d ∷ []) e = (a, b, c, d, refl)
four (a ∷ b ∷ c ∷ d ∷ f ∷ rest) e = absurd (omega arith)

abbrev first_four : List ℕ → List ℕ
first_four xs = get_or xs 0 0 ∷ get_or xs 1 0 ∷ get_or xs 2 0 ∷ get_or xs 3 0 ∷ []

abbrev next_four : List ℕ → List ℕ
next_four xs = get_or xs 4 0 ∷ get_or xs 5 0 ∷ get_or xs 6 0 ∷ get_or xs 7 0 ∷ []

sources : (s rest : List ℕ) → length s ≡ 4 → first_four (s ++ rest) ≡ s
sources s rest e = let is = four s e in rw is.4 refl

destinations : (s d rest : List ℕ) → length s ≡ 4 → length d ≡ 4 → next_four (s ++ (d ++ rest)) ≡ d
destinations s d rest e f = let is = four s e in rw is.4 (sources d rest f)

-- a UDP header and what follows it
udp_by : (u octets : List ℕ) (from to n : ℕ) → n ≡ length octets → length u ≡ 8 + n → number_at Big 2 4 u ≡ 8 + n → number_at Big 2 0 u ≡ from → number_at Big 2 2 u ≡ to
    → slice_range u 8 (8 + n) ≡ octets → udp_of u ≡ Some (record { source_port = from; destination_port = to; payload = octets })
unfolding udp_of
udp_by u octets from to n count size said source destination payload =
    rw (not_below (length u) 8 (omega (arith, size)), said, not_below (8 + n) 8 (omega arith), not_below (length u) (8 + n) (omega (arith, size)), source, destination, payload) refl

udp_back : (a : ArrivalView) → length a.octets ≤ 32784 → a.source_port < 2 ^ 16 → a.destination_port < 2 ^ 16
    → udp_of (udp_octets a ++ a.octets) ≡ Some (record { source_port = a.source_port; destination_port = a.destination_port; payload = a.octets })
unfolding udp_octets
udp_back a few source destination =
    let n : ℕ = length a.octets in
    let p : List ℕ = big_bytes 2 a.source_port in
    let q : List ℕ = big_bytes 2 a.destination_port in
    let l : List ℕ = big_bytes 2 (8 + n) in
    let z : List ℕ = big_bytes 2 0 in
    let u : List ℕ = p ++ q ++ l ++ z ++ a.octets in
    udp_by u a.octets a.source_port a.destination_port n refl (omega arith)
    (big_behind 2 4 (8 + n) (p ++ q) (z ++ a.octets) u refl refl (omega (arith, few)))
    (big_behind 2 0 a.source_port [] (q ++ (l ++ (z ++ a.octets))) u refl refl (omega (arith, source)))
    (big_behind 2 2 a.destination_port p (l ++ (z ++ a.octets)) u refl refl (omega (arith, destination)))
    (midst 8 (8 + n) (p ++ q ++ l ++ z) a.octets [] u (ap (λ x. p ++ q ++ l ++ z ++ x) (sym (append-nil a.octets))) refl refl)

-- a whole datagram in a packet of five words and no fragment
body_by : (frame : List ℕ) (udp : UdpView) (n : ℕ) → number_at Big 2 6 frame ≡ 0x4000 → get_or frame 0 0 ≡ 69 → number_at Big 2 2 frame ≡ 28 + n → length frame ≡ 28 + n
    → udp_of (slice_range frame 20 (28 + n)) ≡ Some udp → body_of frame ≡ Whole udp
unfolding body_of
body_by frame udp n flags first total size is =
    rw (flags, first, total, not_below (28 + n) 20 (omega arith), not_below (length frame) (28 + n) (omega (arith, size)), is) refl

ipv4_by : (frame source destination : List ℕ) (udp : UdpView) → has_udp_header frame ≡ true → address_at 12 frame ≡ source → address_at 16 frame ≡ destination → body_of frame ≡ Whole udp
    → ipv4_of frame ≡ Some (record { source = source; destination = destination; body = Whole udp })
unfolding ipv4_of
ipv4_by frame source destination udp header from to body = rw (header, from, to, body) refl

has_header : (frame : List ℕ) → 20 ≤ length frame → get_or frame 0 0 ≡ 69 → get_or frame 9 0 ≡ 17 → has_udp_header frame ≡ true
has_header frame long first protocol =
    let enough : nat_le 20 (length frame) ≡ true = grind (arith, nat_tests, long) in
    rw (enough, first, protocol) refl

abbrev packet_with : ℕ → ArrivalView → List ℕ
packet_with sum a = header_with sum a ++ udp_octets a ++ a.octets

header_size : (sum : ℕ) (a : ArrivalView) → length a.source ≡ 4 → length a.destination ≡ 4 → 20 ≡ length (header_with sum a)
unfolding header_with
header_size sum a s d = omega (arith, s, d, length-append a.source a.destination)

packet_size : (sum : ℕ) (a : ArrivalView) → length a.source ≡ 4 → length a.destination ≡ 4 → length (packet_with sum a) ≡ 28 + length a.octets
unfolding udp_octets
packet_size sum a s d =
    omega (arith, header_size sum a s d, length-append (header_with sum a ++ udp_octets a) a.octets, length-append (header_with sum a) (udp_octets a))

first_is : (sum : ℕ) (a : ArrivalView) → get_or (packet_with sum a) 0 0 ≡ 69
unfolding header_with
first_is sum a = refl

protocol_is : (sum : ℕ) (a : ArrivalView) → get_or (packet_with sum a) 9 0 ≡ 17
unfolding header_with
protocol_is sum a = refl

flags_are : (sum : ℕ) (a : ArrivalView) → number_at Big 2 6 (packet_with sum a) ≡ 0x4000
unfolding number_at header_with
flags_are sum a = refl

-- the octets behind the first three words
tail : (a : ArrivalView) → a.source ++ a.destination ++ udp_octets a ++ a.octets ≡ a.source ++ (a.destination ++ (udp_octets a ++ a.octets))
tail a = append_assoc (a.source ++ a.destination) (udp_octets a) a.octets ∙ append_assoc a.source a.destination (udp_octets a ++ a.octets)

source_is : (sum : ℕ) (a : ArrivalView) → length a.source ≡ 4 → address_at 12 (packet_with sum a) ≡ a.source
unfolding header_with
source_is sum a s = ap first_four (tail a) ∙ sources a.source (a.destination ++ (udp_octets a ++ a.octets)) s

destination_is : (sum : ℕ) (a : ArrivalView) → length a.source ≡ 4 → length a.destination ≡ 4 → address_at 16 (packet_with sum a) ≡ a.destination
unfolding header_with
destination_is sum a s d = ap next_four (tail a) ∙ destinations a.source a.destination (udp_octets a ++ a.octets) s d

total_is : (sum : ℕ) (a : ArrivalView) → length a.octets ≤ 32784 → number_at Big 2 2 (packet_with sum a) ≡ 28 + length a.octets
unfolding header_with
total_is sum a few =
    big_behind 2 2 (28 + length a.octets) (0x45 ∷ 0 ∷ [])
    ((0 ∷ 0 ∷ 64 ∷ 0 ∷ 64 ∷ 17 ∷ []) ++ big_bytes 2 sum ++ a.source ++ a.destination ++ udp_octets a ++ a.octets) (packet_with sum a) refl refl (omega (arith, few))

pub ipv4_back : (count sum : ℕ) (a : ArrivalView) → IsArrival count a → ipv4_of (packet_with sum a) ≡ Some (packet_of a).ip
ipv4_back count sum a is =
    let frame : List ℕ = packet_with sum a in
    let n : ℕ = length a.octets in
    let size = packet_size sum a is.source is.destination in
    let u : List ℕ = udp_octets a ++ a.octets in
    let within : slice_range frame 20 (28 + n) ≡ u =
    midst 20 (28 + n) (header_with sum a) u [] frame (append_assoc (header_with sum a) (udp_octets a) a.octets ∙ ap (λ l. header_with sum a ++ l) (sym (append-nil u)))
    (header_size sum a is.source is.destination)
    (omega (arith, size, header_size sum a is.source is.destination, length-append (header_with sum a) u, ap length (append_assoc (header_with sum a) (udp_octets a) a.octets))) in
    let udp : UdpView = record { source_port = a.source_port; destination_port = a.destination_port; payload = a.octets } in
    ipv4_by frame a.source a.destination udp (has_header frame (omega (arith, size)) (first_is sum a) (protocol_is sum a)) (source_is sum a is.source) (destination_is sum a is.source is.destination)
    (body_by frame udp n (flags_are sum a) (first_is sum a) (total_is sum a is.octets) size
    (ap udp_of within ∙ udp_back a is.octets is.source_port is.destination_port))
