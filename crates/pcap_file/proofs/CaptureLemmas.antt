-- A capture's records and blocks, one behind the other.
use Rattle.std.proofs.Common.{◌≡◌, ◌≤◌, ◌+◌, ◌-◌, ℕ, zero, suc, List, [], ◌∷◌, length, take, drop, refl, sym, ap, ◌∙◌, arith, option_map, Option, Some, None, Ok, Err, false}
use Rattle.pcap_file.specs.declared.cursor.Format.TheVariants as format
use Rattle.pcap_file.specs.declared.decode.pcap.Pcap.{Pcap}
use Rattle.pcap_file.specs.declared.fault.CaptureFaultKind.{CaptureFaultKind}
use Rattle.pcap_file.specs.declared.decode.record_mark.RecordMark.{RecordMark}
use Rattle.pcap_file.specs.declared.decode.Packet.{Packet}
use Rattle.std.proofs.lemmas.List.{take_rest}
use Rattle.pcap_file.specs.Packet.{PacketView, packet_view}
use Rattle.pcap_file.specs.Pcap.{pcap_of}
use Rattle.pcap_file.specs.Section.{Block, no_section}
use Rattle.pcap_file.specs.Capture.{State, part_of, with_packet, items_after, packets_past, packets_from, packets_behind, packets_of, is_pcapng}

-- octets that are passed over are dropped
packets_past-drop : (count : ℕ) (state : State) (place : ℕ) (octets : List ℕ) → packets_past count state place octets ≡ packets_from state place (drop count octets)
unfolding packets_past
packets_past-drop zero state place octets = refl
packets_past-drop (suc count) state place [] = refl
packets_past-drop (suc count) state place (octet ∷ octets) = packets_past-drop count state place octets

-- no octets have no item
pub packets_from-none : (state : State) (place : ℕ) → packets_from state place [] ≡ []
unfolding packets_past
packets_from-none state place = refl

-- a part's packet comes before the packets behind it
pub packets_from-part : (state : State) (place : ℕ) (octets : List ℕ) (block : Block)
    → 1 ≤ length octets → 1 ≤ block.part.len → part_of state octets ≡ Ok block
    → packets_from state place octets
    ≡ with_packet block.part.packet (packets_from (record { format = state.format; section = block.section }) (place + block.part.len) (drop block.part.len octets))
unfolding packets_past
packets_from-part state place [] block some long e = absurd (omega arith)
packets_from-part state place (octet ∷ octets) block some long e =
    let next : State = record { format = state.format; section = block.section } in
    let far : suc (block.part.len - 1) ≡ block.part.len = omega arith in
    ap (items_after place (λ b. packets_past (b.part.len - 1) (record { format = state.format; section = b.section }) (place + b.part.len) octets)) e
    ∙ ap (with_packet block.part.packet)
    (packets_past-drop (block.part.len - 1) next (place + block.part.len) octets
    ∙ ap (λ n. packets_from next (place + block.part.len) (drop n (octet ∷ octets))) far)

-- a fault comes last
pub packets_from-fault : (state : State) (place : ℕ) (octets : List ℕ) (kind : CaptureFaultKind)
    → 1 ≤ length octets → part_of state octets ≡ Err kind → packets_from state place octets ≡ Err (record { place = place; kind = kind }) ∷ []
unfolding packets_past
packets_from-fault state place [] kind some e = absurd (omega arith)
packets_from-fault state place (octet ∷ octets) kind some e =
    ap (items_after place (λ b. packets_past (b.part.len - 1) (record { format = state.format; section = b.section }) (place + b.part.len) octets)) e

-- a file with the header of a pcap file
pub packets_of-pcap : (octets : List ℕ) (pcap : Pcap) → is_pcapng octets ≡ false → pcap_of octets ≡ Ok pcap
    → packets_of octets ≡ packets_from (record { format = format.Pcap pcap; section = no_section }) 24 (drop 24 octets)
unfolding packets_of
packets_of-pcap octets pcap other e = rw other (ap (packets_behind octets) e)

-- the items after a call that leaves the capture behind a part
packets_from-next : (state next : State) (place place' len : ℕ) (octets octets' : List ℕ) (packet : Option PacketView) (tells : Option RecordMark)
    → 1 ≤ length octets → 1 ≤ len
    → (part_of state octets ≡ Ok (record { part = record { len = len; packet = packet; mark = tells }; section = next.section })) × (next.format ≡ state.format)
    → place' ≡ place → octets' ≡ octets
    → packets_from state place octets ≡ with_packet packet (packets_from next (place' + len) (take (length octets' - len) (drop len octets')))
packets_from-next state next place place' len octets octets' packet tells some long has e f =
    packets_from-part state place octets (record { part = record { len = len; packet = packet; mark = tells }; section = next.section }) some long has.0
    ∙ ap (λ form. with_packet packet (packets_from (record { format = form; section = next.section }) (place + len) (drop len octets))) (sym has.1)
    ∙ ap (λ at. with_packet packet (packets_from next (at + len) (drop len octets))) (sym e)
    ∙ ap (λ xs. with_packet packet (packets_from next (place' + len) (drop len xs))) (sym f)
    ∙ ap (λ xs. with_packet packet (packets_from next (place' + len) xs)) (sym (take_rest octets' len))

pub packets_from-told : (state next : State) (place place' len : ℕ) (octets octets' : List ℕ) (found : Option Packet) (tells : Option RecordMark) (packet : Packet)
    → found ≡ Some packet → 1 ≤ length octets → 1 ≤ len
    → (part_of state octets ≡ Ok (record { part = record { len = len; packet = option_map packet_view found; mark = tells }; section = next.section })) × (next.format ≡ state.format)
    → place' ≡ place → octets' ≡ octets
    → packets_from state place octets ≡ Ok (packet_view packet) ∷ packets_from next (place' + len) (take (length octets' - len) (drop len octets'))
packets_from-told state next place place' len octets octets' found tells packet is some long has e f =
    packets_from-next state next place place' len octets octets' (option_map packet_view found) tells some long has e f
    ∙ ap (λ p. with_packet (option_map packet_view p) (packets_from next (place' + len) (take (length octets' - len) (drop len octets')))) is

pub packets_from-passed : (state next : State) (place place' len : ℕ) (octets octets' : List ℕ) (found : Option Packet) (tells : Option RecordMark)
    → found ≡ None → 1 ≤ length octets → 1 ≤ len
    → (part_of state octets ≡ Ok (record { part = record { len = len; packet = option_map packet_view found; mark = tells }; section = next.section })) × (next.format ≡ state.format)
    → place' ≡ place → octets' ≡ octets
    → packets_from next (place' + len) (take (length octets' - len) (drop len octets')) ≡ packets_from state place octets
packets_from-passed state next place place' len octets octets' found tells is some long has e f =
    sym (packets_from-next state next place place' len octets octets' (option_map packet_view found) tells some long has e f
    ∙ ap (λ p. with_packet (option_map packet_view p) (packets_from next (place' + len) (take (length octets' - len) (drop len octets')))) is)

-- the items after a call that leaves the capture at a fault: with no octets
pub packets_from-ended : (state next : State) (place place' : ℕ) (octets : List ℕ) (kind : CaptureFaultKind)
    → 1 ≤ length octets → part_of state octets ≡ Err kind → place' ≡ place
    → packets_from state place octets ≡ Err (record { place = place'; kind = kind }) ∷ packets_from next place' []
packets_from-ended state next place place' octets kind some fault e =
    packets_from-fault state place octets kind some fault
    ∙ ap (λ at. Err (record { place = at; kind = kind }) ∷ []) (sym e)
    ∙ ap (λ items. Err (record { place = place'; kind = kind }) ∷ items) (sym (packets_from-none next place'))
