use Rattle.std.proofs.Common.{◌≡◌, ◌*◌, ◌%◌, ◌++◌, ℕ, List, length, replicate}
use Rattle.byteorder.specs.Endian.{little_bytes}
use Rattle.pcap_file.specs.Blocks.{option_octets, padded}
use Rattle.pcap_file.proofs.PiecesLemmas.{before, piece, zeros, with_padding}
use Rattle.pcap_file.proofs.encode.body.push_option.Goals as goal

pub returns-clause-items : goal.returns-clause-items
unfolding option_octets padded
returns-clause-items c =
    let value : List ℕ = c.args.value.now in
    let h : List ℕ = c.args.head.now.items in
    let i1 : List ℕ = c.push.new.head.items in
    let i2 : List ℕ = c.push-2.new.head.items in
    let i3 : List ℕ = c.push-3.new.head.items in
    let i4 : List ℕ = c.push-4.new.head.items in
    let p1 : List ℕ = little_bytes 2 c.args.code in
    let p2 : List ℕ = little_bytes 2 (length value) in
    let p4 : List ℕ = replicate (3 * length value % 4) 0 in
    let a1 : i1 ≡ h ++ p1 = piece h i1 _ p1 c.push.ensures.items c.to_le_bytes.ensures in
    let a2 : i2 ≡ i1 ++ p2 = piece i1 i2 _ p2 c.push-2.ensures.items c.to_le_bytes-2.ensures in
    let a4 : i4 ≡ i3 ++ p4 = piece i3 i4 _ p4 c.push-4.ensures.items (zeros (length value)) in
    let b : i3 ≡ h ++ (p1 ++ p2 ++ value) = before h i2 i3 (p1 ++ p2) value (before h i1 i2 p1 p2 a1 a2) c.push-3.ensures.items in
    with_padding h (p1 ++ p2) value p4 i3 i4 b a4
