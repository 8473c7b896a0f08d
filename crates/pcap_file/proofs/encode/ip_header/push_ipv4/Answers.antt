use Rattle.std.proofs.Common.{◌≡◌, ◌+◌, ◌∷◌, [], ◌++◌, ℕ, List, length, ap, ◌∙◌}
use Rattle.byteorder.specs.Endian.{big_bytes}
use Rattle.pcap_file.specs.RecordedDatagram.{ArrivalView, arrival_view}
use Rattle.pcap_file.specs.IpHeader.{checksum_of, header_octets, header_with}
use Rattle.pcap_file.proofs.PiecesLemmas.{before, piece}
use Rattle.pcap_file.proofs.encode.ip_header.push_ipv4.Goals as goal

pub returns-clause-items : goal.returns-clause-items
unfolding header_octets header_with
returns-clause-items c =
    let a : ArrivalView = arrival_view c.args.arrival.now in
    let h : List ℕ = c.args.head.now.items in
    let i1 : List ℕ = c.push.new.head.items in
    let i2 : List ℕ = c.push-2.new.head.items in
    let i3 : List ℕ = c.push-3.new.head.items in
    let i4 : List ℕ = c.push-4.new.head.items in
    let i5 : List ℕ = c.push-5.new.head.items in
    let i6 : List ℕ = c.push-6.new.head.items in
    let p1 : List ℕ = 0x45 ∷ 0 ∷ [] in
    let p2 : List ℕ = big_bytes 2 (28 + length a.octets) in
    let p3 : List ℕ = 0 ∷ 0 ∷ 0x40 ∷ 0 ∷ 64 ∷ 17 ∷ [] in
    let p4 : List ℕ = big_bytes 2 (checksum_of (header_with 0 a)) in
    let a2 : i2 ≡ i1 ++ p2 = piece i1 i2 _ p2 c.push-2.ensures.items c.to_be_bytes.ensures in
    let a4 : i4 ≡ i3 ++ p4 = piece i3 i4 _ p4 c.push-4.ensures.items (c.to_be_bytes-2.ensures ∙ ap (big_bytes 2) c.checksum.ensures) in
    let a5 : i5 ≡ i4 ++ a.source = piece i4 i5 _ a.source c.push-5.ensures.items c.octets.ensures in
    let a6 : i6 ≡ i5 ++ a.destination = piece i5 i6 _ a.destination c.push-6.ensures.items c.octets-2.ensures in
    let b2 : i2 ≡ h ++ (p1 ++ p2) = before h i1 i2 p1 p2 c.push.ensures.items a2 in
    let b3 : i3 ≡ h ++ (p1 ++ p2 ++ p3) = before h i2 i3 (p1 ++ p2) p3 b2 c.push-3.ensures.items in
    let b4 : i4 ≡ h ++ (p1 ++ p2 ++ p3 ++ p4) = before h i3 i4 (p1 ++ p2 ++ p3) p4 b3 a4 in
    let b5 : i5 ≡ h ++ (p1 ++ p2 ++ p3 ++ p4 ++ a.source) = before h i4 i5 (p1 ++ p2 ++ p3 ++ p4) a.source b4 a5 in
    before h i5 i6 (p1 ++ p2 ++ p3 ++ p4 ++ a.source) a.destination b5 a6
