-- The interfaces that a capture describes, returned as its octets are read.
use Rattle.std.proofs.Common.{◌≡◌, ◌⊎◌, inl, inr, ◌≤◌, ◌-◌, ℕ, zero, suc, Bool, true, false, List, [], ◌∷◌, ◌++◌, length, take, drop, Option, Some, None, Result, Ok, Err, OnErr, refl, sym, ap, subst, ◌∙◌, arith, append_assoc, append-nil, take-append-drop, length-append}
use Rattle.std.specs.Option.{option_to_list}
use Rattle.std.proofs.lemmas.List.{drop-append-le, take-append-le, take_all}
use Rattle.pcap_file.specs.declared.cursor.Format.TheVariants as format
use Rattle.pcap_file.specs.declared.decode.record_mark.RecordMark.{RecordMark}
use Rattle.pcap_file.specs.declared.decode.pcap.Pcap.{Pcap}
use Rattle.pcap_file.specs.declared.fault.CaptureFaultKind.{CaptureFaultKind}
use Rattle.pcap_file.specs.declared.block_parser.BlockParser.{BlockParser}
use Rattle.pcap_file.specs.Packet.{PacketView}
use Rattle.pcap_file.specs.Pcap.{pcap_of}
use Rattle.pcap_file.specs.Section.{Block, no_section}
use Rattle.pcap_file.specs.Capture.{State, part_of, is_pcapng}
use Rattle.pcap_file.specs.BlockParser.{IsEnough, is_cut_as, is_cut_in}
use Rattle.pcap_file.specs.ReadBuffer.{Reads}
use Rattle.pcap_file.specs.Reader.{HasOpened, IsFilled}
use Rattle.pcap_file.specs.InterfaceTexts.{TextsView, texts_as}
use Rattle.pcap_file.specs.Described.{DescribesNext, HasDescribed, interfaces_of, texts_after, texts_at, texts_behind, texts_from, texts_past, texts_with}
use Rattle.pcap_file.proofs.BlockParserLemmas.{part_same, same_header}
use Rattle.pcap_file.proofs.ReaderLemmas.{at_end, consumed, cut_none, left_of, lent_as, none_taken, shown}

-- octets that are passed over are dropped
texts_past-drop : (count : ℕ) (state : State) (octets : List ℕ) → texts_past count state octets ≡ texts_from state (drop count octets)
unfolding texts_past
texts_past-drop zero state octets = refl
texts_past-drop (suc count) state [] = refl
texts_past-drop (suc count) state (octet ∷ octets) = texts_past-drop count state octets

-- a block's texts come before those behind it
texts_from-part : (state : State) (octets : List ℕ) (block : Block) → 1 ≤ length octets → 1 ≤ block.part.len → part_of state octets ≡ Ok block
    → texts_from state octets
    ≡ texts_with block.part.packet (texts_as state.format block.section.order (take block.part.len octets)) (texts_from (record { format = state.format; section = block.section }) (drop block.part.len octets))
unfolding texts_past
texts_from-part state [] block some long e = absurd (omega arith)
texts_from-part state (octet ∷ octets) block some long e =
    let next : State = record { format = state.format; section = block.section } in
    let far : suc (block.part.len - 1) ≡ block.part.len = omega arith in
    ap (texts_after state.format (octet ∷ octets) (λ b. texts_past (b.part.len - 1) (record { format = state.format; section = b.section }) octets)) e
    ∙ ap (texts_with block.part.packet (texts_as state.format block.section.order (take block.part.len (octet ∷ octets))))
    (texts_past-drop (block.part.len - 1) next octets ∙ ap (λ n. texts_from next (drop n (octet ∷ octets))) far)

-- no interface is behind a fault
texts_from-fault : (state : State) (octets : List ℕ) (kind : CaptureFaultKind) → 1 ≤ length octets → part_of state octets ≡ Err kind → texts_from state octets ≡ []
unfolding texts_past
texts_from-fault state [] kind some e = absurd (omega arith)
texts_from-fault state (octet ∷ octets) kind some e =
    ap (texts_after state.format (octet ∷ octets) (λ b. texts_past (b.part.len - 1) (record { format = state.format; section = b.section }) octets)) e

-- the interfaces of a file whose header shows
pub texts_pcapng : (front rest : List ℕ) → is_pcapng front ≡ true → IsEnough front rest
    → interfaces_of (front ++ rest) ≡ texts_from (record { format = format.Pcapng; section = no_section }) (front ++ rest)
unfolding interfaces_of
texts_pcapng front rest is enough = rw ((same_header front rest enough).0 ∙ is) refl

pub texts_pcap : (front rest : List ℕ) (pcap : Pcap) → is_pcapng front ≡ false → pcap_of front ≡ Ok pcap → IsEnough front rest
    → interfaces_of (front ++ rest) ≡ texts_from (record { format = format.Pcap pcap; section = no_section }) (drop 24 (front ++ rest))
unfolding interfaces_of
texts_pcap front rest pcap is said enough =
    let same = same_header front rest enough in
    rw (same.0 ∙ is) (ap (texts_behind (front ++ rest)) (same.1 ∙ said))

-- the texts after a call that leaves the capture behind a block, or at a fault
pub passed_texts : (old new : State) (len : ℕ) (front rest : List ℕ) (packet : Option PacketView) (tells : Option RecordMark) → 1 ≤ length front → 1 ≤ len → len ≤ length front
    → (part_of old front ≡ Ok (record { part = record { len = len; packet = packet; mark = tells }; section = new.section })) × (new.format ≡ old.format)
    → (is_cut_as old.format old.section.order front ≡ false) ⊎ (rest ≡ [])
    → texts_from old (front ++ rest) ≡ texts_with packet (texts_as new.format new.section.order (take len front)) (texts_from new (drop len front ++ rest))
passed_texts old new len front rest packet tells some long within has whole =
    let more = length-append front rest in
    texts_from-part old (front ++ rest) (record { part = record { len = len; packet = packet; mark = tells }; section = new.section }) (omega (arith, some, more)) long
    (part_same old front rest whole ∙ has.0)
    ∙ ap (λ form. texts_with packet (texts_as form new.section.order (take len (front ++ rest))) (texts_from (record { format = form; section = new.section }) (drop len (front ++ rest)))) (sym has.1)
    ∙ ap (λ l. texts_with packet (texts_as new.format new.section.order l) (texts_from new (drop len (front ++ rest)))) (take-append-le len front rest within)
    ∙ ap (λ l. texts_with packet (texts_as new.format new.section.order (take len front)) (texts_from new l)) (drop-append-le len front rest within)

pub no_text_behind : (old : State) (front rest : List ℕ) (kind : CaptureFaultKind) → 1 ≤ length front → part_of old front ≡ Err kind
    → (is_cut_as old.format old.section.order front ≡ false) ⊎ (rest ≡ []) → texts_from old (front ++ rest) ≡ []
no_text_behind old front rest kind some is whole =
    let more = length-append front rest in
    texts_from-fault old (front ++ rest) kind (omega (arith, some, more)) (part_same old front rest whole ∙ is)

-- more octets came
pub described_more : (file : List ℕ) (texts : List TextsView) (left then : Option (List ℕ)) (parts : BlockParser) (held longer : List ℕ) (ended now : Bool)
    → HasDescribed file texts left parts held ended → Reads left then held longer now → HasDescribed file texts then parts longer now
described_more file texts left then parts held longer ended now told reads =
    let came = consumed left then told.rest reads.octets told.left_is reads.read in
    let same : held ++ told.rest ≡ longer ++ came.0 = ap (λ l. held ++ l) came.2 ∙ sym (append_assoc held reads.octets came.0) ∙ ap (λ l. l ++ came.0) (sym reads.grown) in
    record {
      rest = came.0;
      left_is = came.1;
      all = told.all ∙ ap (λ l. texts ++ texts_at parts l) same;
      end = λ e. at_end then came.0 came.1 (reads.end e);
    }

texts_none : (parts : BlockParser) → texts_at parts [] ≡ []
unfolding texts_past
texts_none parts = refl

-- no octet is left
pub described_end : (file : List ℕ) (texts : List TextsView) (left : Option (List ℕ)) (parts : BlockParser) (held : List ℕ) (ended : Bool)
    → take 983040 held ≡ [] → IsFilled parts held ended → HasDescribed file texts left parts held ended → interfaces_of file ≡ texts
described_end file texts left parts held ended empty filled told =
    let over : ended ≡ true = elim filled [
      | inl whole ↦ absurd (let f : false ≡ true = sym whole ∙ ap (is_cut_in parts) empty ∙ cut_none parts.format parts.section.order in cc)
      | inr short ↦ short.0
    ] in
    let nothing : held ++ told.rest ≡ [] = ap (λ l. l ++ told.rest) (none_taken held empty) ∙ told.end over in
    told.all ∙ ap (λ l. texts ++ texts_at parts l) nothing ∙ ap (λ l. texts ++ l) (texts_none parts) ∙ append-nil texts

-- a block is passed over
pub described_next : (file : List ℕ) (texts : List TextsView) (left : Option (List ℕ)) (parts then : BlockParser) (held : List ℕ) (ended : Bool) (len : ℕ) (packet : Option PacketView) (front : List ℕ) → front ≡ take 983040 held
    → IsFilled parts held ended → len ≤ length front
    → ((rest : List ℕ) → (is_cut_in parts front ≡ false) ⊎ (rest ≡ []) → texts_at parts (front ++ rest) ≡ texts_with packet (texts_as then.format then.section.order (take len front)) (texts_at then (drop len front ++ rest)))
    → HasDescribed file texts left parts held ended → DescribesNext file texts left then held ended len packet
described_next file texts left parts then held ended len None front is filled short passes told =
    let within : len ≤ length (take 983040 held) = subst (λ f. len ≤ length f) is short in
    let here : drop len front ++ (drop 983040 held ++ told.rest) ≡ drop len held ++ told.rest = ap (λ f. drop len f ++ (drop 983040 held ++ told.rest)) is ∙ left_of len held told.rest within in
    let block : take len front ≡ take len held = ap (take len) is ∙ sym (take-append-le len (take 983040 held) (drop 983040 held) within) ∙ ap (take len) (take-append-drop 983040 held) in
    let own : List ℕ → List TextsView = λ l. option_to_list (texts_as then.format then.section.order l) in
    record {
      rest = told.rest;
      left_is = told.left_is;
      all = told.all
          ∙ ap (λ l. texts ++ l) (lent_as (texts_at parts) (λ r. own (take len front) ++ texts_at then (drop len front ++ r)) parts held told.rest ended front is filled told.end passes
          ∙ ap (λ l. own (take len front) ++ texts_at then l) here
          ∙ ap (λ l. own l ++ texts_at then (drop len held ++ told.rest)) block)
          ∙ sym (append_assoc texts (own (take len held)) (texts_at then (drop len held ++ told.rest)));
      end = told.end;
    }
described_next file texts left parts then held ended len (Some packet) front is filled short passes told =
    told.all ∙ ap (λ l. texts ++ l) (lent_as (texts_at parts) (λ _. []) parts held told.rest ended front is filled told.end passes) ∙ append-nil texts

-- the next block has a fault
pub described_fault : (file : List ℕ) (texts : List TextsView) (left : Option (List ℕ)) (parts : BlockParser) (held : List ℕ) (ended : Bool) (front : List ℕ) → front ≡ take 983040 held → IsFilled parts held ended
    → ((rest : List ℕ) → (is_cut_in parts front ≡ false) ⊎ (rest ≡ []) → texts_at parts (front ++ rest) ≡ [])
    → HasDescribed file texts left parts held ended → interfaces_of file ≡ texts
described_fault file texts left parts held ended front is filled none told =
    told.all ∙ ap (λ l. texts ++ l) (lent_as (texts_at parts) (λ _. []) parts held told.rest ended front is filled told.end none) ∙ append-nil texts

-- the header of a file shows, or all of the file
pub described_open : (file : List ℕ) (left then : Option (List ℕ)) (parts : BlockParser) (held : List ℕ) (ended : Bool) (front : List ℕ) → front ≡ take 983040 held → left ≡ Some file → HasOpened left then held ended
    → ((rest : List ℕ) → IsEnough front rest → interfaces_of (front ++ rest) ≡ texts_at parts (drop parts.place (front ++ rest)))
    → parts.place ≤ length front → HasDescribed file [] then parts (drop parts.place held) ended
described_open file left then parts held ended front front_is is opened says short =
    let came = consumed left then file held is opened.read in
    let whole : front ≡ held = front_is ∙ take_all 983040 held (omega (arith, opened.few)) in
    let end : (ended ≡ true → came.0 ≡ []) = λ e. at_end then came.0 came.1 (opened.end e) in
    let enough : IsEnough front came.0 = subst (λ f. IsEnough f came.0) (sym front_is) (shown held came.0 ended opened.enough opened.few end) in
    let all : file ≡ front ++ came.0 = came.2 ∙ ap (λ l. l ++ came.0) (sym whole) in
    let here : drop parts.place (front ++ came.0) ≡ drop parts.place held ++ came.0 = drop-append-le parts.place front came.0 short ∙ ap (λ l. drop parts.place l ++ came.0) whole in
    record {
      rest = came.0;
      left_is = came.1;
      all = ap interfaces_of all ∙ says came.0 enough ∙ ap (texts_at parts) here;
      end = end;
    }

-- a block within the octets of `front` is the same in all that is held
pub block_front : (held : List ℕ) (len : ℕ) → len ≤ length (take 983040 held) → take len (take 983040 held) ≡ take len held
block_front held len within = sym (take-append-le len (take 983040 held) (drop 983040 held) within) ∙ ap (take len) (take-append-drop 983040 held)

pub on_err : {X E : Type 0} (r : Result X E) (P Q : Type 0) → (P → Q) → OnErr r P → OnErr r Q
on_err (Ok x) P Q f p = tt
on_err (Err e) P Q f p = f p
