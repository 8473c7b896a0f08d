-- A capture that was read only in part: a prefix of it.
use Rattle.std.proofs.Common.{◌≡◌, ◌⊎◌, inl, inr, ◌≤◌, ◌+◌, ℕ, true, false, List, [], ◌∷◌, ◌++◌, length, drop, Option, Some, None, Ok, Err, nat_lt, refl, sym, ap, ◌∙◌, arith, append-nil, length-append}
use Rattle.std.proofs.lemmas.Bool.Decides.{nat_tests}
use Rattle.std.proofs.lemmas.List.{drop-append-le}
use Rattle.pcap_file.specs.declared.cursor.Format.{Format}
use Rattle.pcap_file.specs.declared.cursor.Format.TheVariants as format
use Rattle.pcap_file.specs.declared.decode.endian.Endian.{Endian}
use Rattle.pcap_file.specs.declared.decode.endian.Endian.TheVariants.{Big, Little}
use Rattle.pcap_file.specs.declared.decode.pcap.Pcap.{Pcap}
use Rattle.pcap_file.specs.declared.decode.pcap.TimeUnit.{TimeUnit as PcapUnit}
use Rattle.pcap_file.specs.declared.fault.CaptureFaultKind.{CaptureFaultKind}
use Rattle.pcap_file.specs.declared.decode.record_mark.RecordMark.{RecordMark}
use Rattle.pcap_file.specs.Octets.{number_at}
use Rattle.pcap_file.specs.Packet.{PacketView}
use Rattle.pcap_file.specs.Pcap.{header_in, magic_of, pcap_of}
use Rattle.pcap_file.specs.Section.{SectionView, no_section}
use Rattle.pcap_file.specs.Capture.{State, is_pcapng, packets_behind, packets_from, packets_of, part_as, part_of, record_in, with_packet}
use Rattle.pcap_file.specs.BlockParser.{IsEnough, is_cut_as}
use Rattle.pcap_file.proofs.CaptureLemmas.{packets_from-fault, packets_from-part, packets_of-pcap}
use Rattle.pcap_file.proofs.FrontLemmas.{block_front, number_front, record_front}

not_below : (a b : ℕ) → b ≤ a → nat_lt a b ≡ false
not_below a b h = grind (arith, nat_tests)

pcapng_front : (front rest : List ℕ) → 24 ≤ length front → is_pcapng (front ++ rest) ≡ is_pcapng front
pcapng_front front rest long =
    let more = length-append front rest in
    let same : number_at Big 4 0 (front ++ rest) ≡ number_at Big 4 0 front = number_front Big 4 0 front rest (omega (arith, long)) in
    grind (arith, nat_tests, same, more, long)

magic_front : (front rest : List ℕ) → 24 ≤ length front → magic_of (front ++ rest) ≡ magic_of front
magic_front front rest long = rw (number_front Big 4 0 front rest (omega (arith, long)), number_front Little 4 0 front rest (omega (arith, long))) refl

header_front : (front rest : List ℕ) (said : Option (Endian × PcapUnit)) → 24 ≤ length front → header_in (front ++ rest) said ≡ header_in front said
unfolding header_in
header_front front rest None long = refl
header_front front rest (Some said) long =
    let more = length-append front rest in
    rw (
      not_below (length (front ++ rest)) 24 (omega (arith, long, more)),
      not_below (length front) 24 long,
      number_front said.0 2 4 front rest (omega (arith, long)),
      number_front said.0 2 6 front rest (omega (arith, long)),
      number_front said.0 4 20 front rest (omega (arith, long)),
    ) refl

pcap_whole : (octets : List ℕ) → 4 ≤ length octets → pcap_of octets ≡ header_in octets (magic_of octets)
unfolding pcap_of
pcap_whole octets long = rw (not_below (length octets) 4 long) refl

pcap_front : (front rest : List ℕ) → 24 ≤ length front → pcap_of (front ++ rest) ≡ pcap_of front
pcap_front front rest long =
    let more = length-append front rest in
    pcap_whole (front ++ rest) (omega (arith, long, more)) ∙ ap (header_in (front ++ rest)) (magic_front front rest long)
    ∙ header_front front rest (magic_of front) long ∙ sym (pcap_whole front (omega (arith, long)))

-- the header in a prefix is that of the whole file
pub same_header : (front rest : List ℕ) → IsEnough front rest → (is_pcapng (front ++ rest) ≡ is_pcapng front) × (pcap_of (front ++ rest) ≡ pcap_of front)
same_header front rest (inl long) = (pcapng_front front rest long, pcap_front front rest long)
same_header front rest (inr none) =
    let same : front ++ rest ≡ front = ap (λ l. front ++ l) none ∙ append-nil front in
    (ap is_pcapng same, ap pcap_of same)

pub opened_pcapng : (front rest : List ℕ) → is_pcapng front ≡ true → IsEnough front rest
    → packets_of (front ++ rest) ≡ packets_from (record { format = format.Pcapng; section = no_section }) 0 (front ++ rest)
unfolding packets_of
opened_pcapng front rest is enough = rw ((same_header front rest enough).0 ∙ is) refl

pub opened_pcap : (front rest : List ℕ) (pcap : Pcap) → is_pcapng front ≡ false → pcap_of front ≡ Ok pcap → IsEnough front rest
    → packets_of (front ++ rest) ≡ packets_from (record { format = format.Pcap pcap; section = no_section }) 24 (drop 24 (front ++ rest))
opened_pcap front rest pcap is said enough =
    let same = same_header front rest enough in
    packets_of-pcap (front ++ rest) pcap (same.0 ∙ is) (same.1 ∙ said)

pub opened_none : (front rest : List ℕ) (kind : CaptureFaultKind) → is_pcapng front ≡ false → pcap_of front ≡ Err kind → IsEnough front rest
    → packets_of (front ++ rest) ≡ Err (record { place = 0; kind = kind }) ∷ []
unfolding packets_of
opened_none front rest kind is said enough =
    let same = same_header front rest enough in
    rw (same.0 ∙ is) (ap (packets_behind (front ++ rest)) (same.1 ∙ said))

-- a record or a block is the same, whatever follows it
part_front : (form : Format) (section : SectionView) (front rest : List ℕ) → is_cut_as form section.order front ≡ false → part_as form section (front ++ rest) ≡ part_as form section front
unfolding part_as
part_front (format.Pcap pcap) section front rest whole = ap (record_in section) (record_front pcap front rest whole)
part_front format.Pcapng section front rest whole = block_front section front rest whole

pub part_same : (state : State) (front rest : List ℕ) → (is_cut_as state.format state.section.order front ≡ false) ⊎ (rest ≡ []) → part_of state (front ++ rest) ≡ part_of state front
part_same state front rest (inl whole) = part_front state.format state.section front rest whole
part_same state front rest (inr none) = ap (part_of state) (ap (λ l. front ++ l) none ∙ append-nil front)

pub passed_part : (old new : State) (place place' len : ℕ) (front rest : List ℕ) (packet : Option PacketView) (tells : Option RecordMark) → 1 ≤ length front → 1 ≤ len → len ≤ length front
    → (part_of old front ≡ Ok (record { part = record { len = len; packet = packet; mark = tells }; section = new.section })) × (new.format ≡ old.format) → place' ≡ place
    → (is_cut_as old.format old.section.order front ≡ false) ⊎ (rest ≡ [])
    → packets_from old place (front ++ rest) ≡ with_packet packet (packets_from new (place' + len) (drop len front ++ rest))
passed_part old new place place' len front rest packet tells some long within has e whole =
    let more = length-append front rest in
    packets_from-part old place (front ++ rest) (record { part = record { len = len; packet = packet; mark = tells }; section = new.section }) (omega (arith, some, more)) long
    (part_same old front rest whole ∙ has.0)
    ∙ ap (λ form. with_packet packet (packets_from (record { format = form; section = new.section }) (place + len) (drop len (front ++ rest)))) (sym has.1)
    ∙ ap (λ at. with_packet packet (packets_from new (at + len) (drop len (front ++ rest)))) (sym e)
    ∙ ap (λ l. with_packet packet (packets_from new (place' + len) l)) (drop-append-le len front rest within)

pub passed_fault : (old : State) (place place' : ℕ) (front rest : List ℕ) (kind : CaptureFaultKind) → 1 ≤ length front → part_of old front ≡ Err kind → place' ≡ place
    → (is_cut_as old.format old.section.order front ≡ false) ⊎ (rest ≡ [])
    → packets_from old place (front ++ rest) ≡ Err (record { place = place'; kind = kind }) ∷ []
passed_fault old place place' front rest kind some is e whole =
    let more = length-append front rest in
    packets_from-fault old place (front ++ rest) kind (omega (arith, some, more)) (part_same old front rest whole ∙ is)
    ∙ ap (λ at. Err (record { place = at; kind = kind }) ∷ []) (sym e)
