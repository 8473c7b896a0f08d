-- The entries of a capture's blocks, one behind the other.
use Rattle.std.proofs.Common.{◌≡◌, ◌⊎◌, ◌≤◌, ◌-◌, ℕ, zero, suc, true, false, List, [], ◌∷◌, ◌++◌, length, drop, refl, sym, ap, ◌∙◌, arith, Option, Ok, Err, length-append}
use Rattle.std.proofs.lemmas.List.{drop-append-le}
use Rattle.pcap_file.specs.declared.cursor.Format.TheVariants as format
use Rattle.pcap_file.specs.declared.decode.record_mark.RecordMark.{RecordMark}
use Rattle.pcap_file.specs.declared.decode.pcap.Pcap.{Pcap}
use Rattle.pcap_file.specs.declared.fault.CaptureFaultKind.{CaptureFaultKind}
use Rattle.pcap_file.specs.Packet.{PacketView}
use Rattle.pcap_file.specs.Pcap.{pcap_of}
use Rattle.pcap_file.specs.Section.{Block, no_section}
use Rattle.pcap_file.specs.Capture.{State, part_of, is_pcapng}
use Rattle.pcap_file.specs.BlockParser.{IsEnough, is_cut_as}
use Rattle.pcap_file.specs.Entries.{entries_after, entries_in, entries_past, entries_from, entries_behind, entries_of}
use Rattle.pcap_file.proofs.BlockParserLemmas.{part_same, same_header}

-- octets that are passed over are dropped
entries_past-drop : (count : ℕ) (state : State) (octets : List ℕ) → entries_past count state octets ≡ entries_from state (drop count octets)
unfolding entries_past
entries_past-drop zero state octets = refl
entries_past-drop (suc count) state [] = refl
entries_past-drop (suc count) state (octet ∷ octets) = entries_past-drop count state octets

-- a part's entries come before those behind it
entries_from-part : (state : State) (octets : List ℕ) (block : Block) → 1 ≤ length octets → 1 ≤ block.part.len → part_of state octets ≡ Ok block
    → entries_from state octets
    ≡ entries_in block.part.packet block.part.mark ++ entries_from (record { format = state.format; section = block.section }) (drop block.part.len octets)
unfolding entries_past
entries_from-part state [] block some long e = absurd (omega arith)
entries_from-part state (octet ∷ octets) block some long e =
    let next : State = record { format = state.format; section = block.section } in
    let far : suc (block.part.len - 1) ≡ block.part.len = omega arith in
    ap (entries_after (λ b. entries_past (b.part.len - 1) (record { format = state.format; section = b.section }) octets)) e
    ∙ ap (λ l. entries_in block.part.packet block.part.mark ++ l)
    (entries_past-drop (block.part.len - 1) next octets ∙ ap (λ n. entries_from next (drop n (octet ∷ octets))) far)

-- no entry is behind a fault
entries_from-fault : (state : State) (octets : List ℕ) (kind : CaptureFaultKind) → 1 ≤ length octets → part_of state octets ≡ Err kind → entries_from state octets ≡ []
unfolding entries_past
entries_from-fault state [] kind some e = absurd (omega arith)
entries_from-fault state (octet ∷ octets) kind some e =
    ap (entries_after (λ b. entries_past (b.part.len - 1) (record { format = state.format; section = b.section }) octets)) e

-- the entries of a file whose header shows
pub listed_pcapng : (front rest : List ℕ) → is_pcapng front ≡ true → IsEnough front rest
    → entries_of (front ++ rest) ≡ entries_from (record { format = format.Pcapng; section = no_section }) (front ++ rest)
unfolding entries_of
listed_pcapng front rest is enough = rw ((same_header front rest enough).0 ∙ is) refl

pub listed_pcap : (front rest : List ℕ) (pcap : Pcap) → is_pcapng front ≡ false → pcap_of front ≡ Ok pcap → IsEnough front rest
    → entries_of (front ++ rest) ≡ entries_from (record { format = format.Pcap pcap; section = no_section }) (drop 24 (front ++ rest))
unfolding entries_of
listed_pcap front rest pcap is said enough =
    let same = same_header front rest enough in
    rw (same.0 ∙ is) (ap (entries_behind (front ++ rest)) (same.1 ∙ said))

-- the entries after a call that leaves the capture behind a part, or at a fault
pub passed_entries : (old new : State) (len : ℕ) (front rest : List ℕ) (packet : Option PacketView) (tells : Option RecordMark) → 1 ≤ length front → 1 ≤ len → len ≤ length front
    → (part_of old front ≡ Ok (record { part = record { len = len; packet = packet; mark = tells }; section = new.section })) × (new.format ≡ old.format)
    → (is_cut_as old.format old.section.order front ≡ false) ⊎ (rest ≡ [])
    → entries_from old (front ++ rest) ≡ entries_in packet tells ++ entries_from new (drop len front ++ rest)
passed_entries old new len front rest packet tells some long within has whole =
    let more = length-append front rest in
    entries_from-part old (front ++ rest) (record { part = record { len = len; packet = packet; mark = tells }; section = new.section }) (omega (arith, some, more)) long
    (part_same old front rest whole ∙ has.0)
    ∙ ap (λ form. entries_in packet tells ++ entries_from (record { format = form; section = new.section }) (drop len (front ++ rest))) (sym has.1)
    ∙ ap (λ l. entries_in packet tells ++ entries_from new l) (drop-append-le len front rest within)

pub no_entry_behind : (old : State) (front rest : List ℕ) (kind : CaptureFaultKind) → 1 ≤ length front → part_of old front ≡ Err kind
    → (is_cut_as old.format old.section.order front ≡ false) ⊎ (rest ≡ []) → entries_from old (front ++ rest) ≡ []
no_entry_behind old front rest kind some is whole =
    let more = length-append front rest in
    entries_from-fault old (front ++ rest) kind (omega (arith, some, more)) (part_same old front rest whole ∙ is)
