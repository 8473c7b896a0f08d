-- A capture's entries, returned as its octets are read.
use Rattle.std.proofs.Common.{◌≡◌, ◌⊎◌, inl, inr, ◌≤◌, ◌<◌, ◌+◌, ℕ, Bool, true, false, List, [], ◌∷◌, ◌++◌, length, take, drop, map, Option, Some, None, IfSome, Result, Ok, Err, IfOk, IfErr, OnErr, refl, sym, ap, subst, ◌∙◌, arith, append_assoc, append-nil, take-append-drop, length-append}
use Rattle.std.specs.Option.{option_to_list}
use Rattle.std.specs.Io.KnownBytes.{Consumes, IsAtEnd}
use Rattle.std.proofs.KnownBytes.{Consumes-trans}
use Rattle.std.proofs.lemmas.List.{drop-append-le, drop_all, length-take, map-append, nil_from_length, take_all}
use Rattle.pcap_file.specs.declared.cursor.Format.{Format}
use Rattle.pcap_file.specs.declared.cursor.Format.TheVariants as format
use Rattle.pcap_file.specs.declared.decode.endian.Endian.{Endian}
use Rattle.pcap_file.specs.declared.block_parser.BlockParser.{BlockParser}
use Rattle.pcap_file.specs.declared.fault.CaptureFault.{CaptureFault}
use Rattle.pcap_file.specs.declared.fault.CaptureFaultKind.TheVariants.{Truncated}
use Rattle.pcap_file.specs.declared.decode.record_mark.RecordMark.{RecordMark}
use Rattle.pcap_file.specs.Packet.{PacketView}
use Rattle.pcap_file.specs.Capture.{Item, packets_of, packets_past, with_packet}
use Rattle.pcap_file.specs.Entries.{Entry, entries_at, entries_in, entries_of, entries_past}
use Rattle.pcap_file.specs.BlockParser.{IsEnough, is_cut_as, is_cut_in, items_at}
use Rattle.pcap_file.specs.ReadBuffer.{Reads}
use Rattle.pcap_file.specs.Reader.{EndsWith, HasEntries, HasOpened, HasReturned, IsCutBehind, IsFaultBehind, IsFilled, IsNext, cut_fault_of, packets_among}
use Rattle.pcap_file.proofs.ReaderEntryLemmas.{among_more}

-- a fact about a value that is there
pub some_of : {X : Type 0} (o : Option X) (P : X → Type 0) → ((x : X) → o ≡ Some x → P x) → IfSome o P
some_of None P f = tt
some_of (Some x) P f = f x refl

one : (o : Option (List ℕ)) (x y : List ℕ) → o ≡ Some x → o ≡ Some y → x ≡ y
one o x y e f = cc

-- octets that were read from known octets are a prefix of them
pub consumed : (left then : Option (List ℕ)) (rest octets : List ℕ) → left ≡ Some rest → Consumes left then octets → (more : List ℕ) × (then ≡ Some more) × (rest ≡ octets ++ more)
consumed None then rest octets e read = absurd (let f : None ≡ Some rest = e in cc)
consumed (Some x) None rest octets e read = absurd read
consumed (Some x) (Some y) rest octets e read = (y, refl, one (Some x) rest x e refl ∙ read)

pub at_end : (left : Option (List ℕ)) (rest : List ℕ) → left ≡ Some rest → IsAtEnd left → rest ≡ []
at_end left rest e end = subst IsAtEnd e end

-- more octets came
pub told_more : (file : List ℕ) (entries : List Entry) (left then : Option (List ℕ)) (parts : BlockParser) (held longer : List ℕ) (ended now : Bool)
    → HasReturned file entries left parts held ended → Reads left then held longer now → HasReturned file entries then parts longer now
told_more file entries left then parts held longer ended now told reads =
    let came = consumed left then told.rest reads.octets told.left_is reads.read in
    let same : held ++ told.rest ≡ longer ++ came.0 = ap (λ l. held ++ l) came.2 ∙ sym (append_assoc held reads.octets came.0) ∙ ap (λ l. l ++ came.0) (sym reads.grown) in
    record {
      rest = came.0;
      left_is = came.1;
      packets = told.packets ∙ ap (λ l. map Ok (packets_among entries) ++ items_at parts l) same;
      all = told.all ∙ ap (λ l. entries ++ entries_at parts l) same;
      end = λ e. at_end then came.0 came.1 (reads.end e);
    }

-- nothing is a record, or a block
pub cut_none : (form : Format) (order : Endian) → is_cut_as form order [] ≡ true
cut_none (format.Pcap header) order = refl
cut_none format.Pcapng order = refl

items_none : (parts : BlockParser) → items_at parts [] ≡ []
unfolding packets_past
items_none parts = refl

entries_none : (parts : BlockParser) → entries_at parts [] ≡ []
unfolding entries_past
entries_none parts = refl

pub none_taken : (held : List ℕ) → take 983040 held ≡ [] → held ≡ []
none_taken [] e = refl
none_taken (x ∷ held) e = absurd (let f : x ∷ take 983039 held ≡ [] = e in cc)

-- no octet is left
pub told_end : (file : List ℕ) (entries : List Entry) (left : Option (List ℕ)) (parts : BlockParser) (held : List ℕ) (ended : Bool)
    → take 983040 held ≡ [] → IsFilled parts held ended → HasReturned file entries left parts held ended → HasEntries file entries
told_end file entries left parts held ended empty filled told =
    let none = none_taken held empty in
    let over : ended ≡ true = elim filled [
      | inl whole ↦ absurd (let f : false ≡ true = sym whole ∙ ap (is_cut_in parts) empty ∙ cut_none parts.format parts.section.order in cc)
      | inr short ↦ short.0
    ] in
    let nothing : held ++ told.rest ≡ [] = ap (λ l. l ++ told.rest) none ∙ told.end over in
    let packets = packets_among entries in
    record {
      packets = told.packets ∙ ap (λ l. map Ok packets ++ items_at parts l) nothing ∙ ap (λ l. map Ok packets ++ l) (items_none parts) ∙ append-nil (map Ok packets);
      all = told.all ∙ ap (λ l. entries ++ entries_at parts l) nothing ∙ ap (λ l. entries ++ l) (entries_none parts) ∙ append-nil entries;
    }

-- a packet more, if there is one
with_more : (packets : List PacketView) (packet : Option PacketView) (items : List Item) → map Ok packets ++ with_packet packet items ≡ map Ok (packets ++ option_to_list packet) ++ items
with_more packets None items = ap (λ l. map Ok l ++ items) (sym (append-nil packets))
with_more packets (Some p) items = sym (append_assoc (map Ok packets) (Ok p ∷ []) items) ∙ ap (λ l. l ++ items) (sym (map-append Ok packets (p ∷ [])))

-- the octets behind those of `front`
pub behind : (parts : BlockParser) (held : List ℕ) (rest : List ℕ) (ended : Bool) → IsFilled parts held ended → (ended ≡ true → rest ≡ [])
    → (is_cut_in parts (take 983040 held) ≡ false) ⊎ (drop 983040 held ++ rest ≡ [])
behind parts held rest ended (inl whole) end = inl whole
behind parts held rest ended (inr short) end = inr (ap (λ l. l ++ rest) (drop_all 983040 held (omega (arith, short.1))) ∙ end short.0)

pub lent : (held rest : List ℕ) → held ++ rest ≡ take 983040 held ++ (drop 983040 held ++ rest)
lent held rest = ap (λ l. l ++ rest) (sym (take-append-drop 983040 held)) ∙ append_assoc (take 983040 held) (drop 983040 held) rest

pub left_of : (len : ℕ) (held rest : List ℕ) → len ≤ length (take 983040 held) → drop len (take 983040 held) ++ (drop 983040 held ++ rest) ≡ drop len held ++ rest
left_of len held rest within =
    sym (append_assoc (drop len (take 983040 held)) (drop 983040 held) rest)
    ∙ ap (λ l. l ++ rest) (sym (drop-append-le len (take 983040 held) (drop 983040 held) within) ∙ ap (drop len) (take-append-drop 983040 held))

-- what holds of the octets of `front` holds of all that the buffer has
pub lent_as : {X : Type 0} (f : List ℕ → X) (x : List ℕ → X) (parts : BlockParser) (held rest : List ℕ) (ended : Bool) (front : List ℕ) → front ≡ take 983040 held → IsFilled parts held ended → (ended ≡ true → rest ≡ [])
    → ((rest : List ℕ) → (is_cut_in parts front ≡ false) ⊎ (rest ≡ []) → f (front ++ rest) ≡ x rest) → f (held ++ rest) ≡ x (drop 983040 held ++ rest)
lent_as f x parts held rest ended front is filled end says =
    let next : (rest : List ℕ) → (is_cut_in parts (take 983040 held) ≡ false) ⊎ (rest ≡ []) → f (take 983040 held ++ rest) ≡ x rest =
    subst (λ l. (rest : List ℕ) → (is_cut_in parts l ≡ false) ⊎ (rest ≡ []) → f (l ++ rest) ≡ x rest) is says in
    ap f (lent held rest) ∙ next (drop 983040 held ++ rest) (behind parts held rest ended filled end)

-- a record or a block is passed over
pub told_next : (file : List ℕ) (entries : List Entry) (left : Option (List ℕ)) (parts then : BlockParser) (held : List ℕ) (ended : Bool) (len : ℕ) (packet : Option PacketView) (tells : Option RecordMark) (front : List ℕ) → front ≡ take 983040 held
    → IsFilled parts held ended → len ≤ length front
    → ((rest : List ℕ) → (is_cut_in parts front ≡ false) ⊎ (rest ≡ []) → items_at parts (front ++ rest) ≡ with_packet packet (items_at then (drop len front ++ rest)))
    → ((rest : List ℕ) → (is_cut_in parts front ≡ false) ⊎ (rest ≡ []) → entries_at parts (front ++ rest) ≡ entries_in packet tells ++ entries_at then (drop len front ++ rest))
    → HasReturned file entries left parts held ended → HasReturned file (entries ++ entries_in packet tells) left then (drop len held) ended
told_next file entries left parts then held ended len packet tells front is filled short passes lists told =
    let within : len ≤ length (take 983040 held) = subst (λ f. len ≤ length f) is short in
    let here : drop len front ++ (drop 983040 held ++ told.rest) ≡ drop len held ++ told.rest = ap (λ f. drop len f ++ (drop 983040 held ++ told.rest)) is ∙ left_of len held told.rest within in
    let packets = packets_among entries in
    record {
      rest = told.rest;
      left_is = told.left_is;
      packets = told.packets
          ∙ ap (λ l. map Ok packets ++ l) (lent_as (items_at parts) (λ r. with_packet packet (items_at then (drop len front ++ r))) parts held told.rest ended front is filled told.end passes
          ∙ ap (λ l. with_packet packet (items_at then l)) here)
          ∙ with_more packets packet (items_at then (drop len held ++ told.rest))
          ∙ ap (λ l. map Ok l ++ items_at then (drop len held ++ told.rest)) (sym (among_more entries packet tells));
      all = told.all
          ∙ ap (λ l. entries ++ l) (lent_as (entries_at parts) (λ r. entries_in packet tells ++ entries_at then (drop len front ++ r)) parts held told.rest ended front is filled told.end lists
          ∙ ap (λ l. entries_in packet tells ++ entries_at then l) here)
          ∙ sym (append_assoc entries (entries_in packet tells) (entries_at then (drop len held ++ told.rest)));
      end = told.end;
    }

-- the next record or block has a fault
pub told_fault : (file : List ℕ) (entries : List Entry) (left : Option (List ℕ)) (parts : BlockParser) (held : List ℕ) (ended : Bool) (fault : CaptureFault) (front : List ℕ) → front ≡ take 983040 held
    → IsFilled parts held ended
    → ((rest : List ℕ) → (is_cut_in parts front ≡ false) ⊎ (rest ≡ []) → items_at parts (front ++ rest) ≡ Err fault ∷ [])
    → ((rest : List ℕ) → (is_cut_in parts front ≡ false) ⊎ (rest ≡ []) → entries_at parts (front ++ rest) ≡ [])
    → HasReturned file entries left parts held ended → IsFaultBehind file entries fault
told_fault file entries left parts held ended fault front is filled fails lists told = record {
  packets = told.packets ∙ ap (λ l. map Ok (packets_among entries) ++ l) (lent_as (items_at parts) (λ _. Err fault ∷ []) parts held told.rest ended front is filled told.end fails);
  all = told.all ∙ ap (λ l. entries ++ l) (lent_as (entries_at parts) (λ _. []) parts held told.rest ended front is filled told.end lists) ∙ append-nil entries;
}

-- the header of a file shows, or all of the file
pub shown : (held rest : List ℕ) (ended : Bool) → (ended ≡ false → 24 ≤ length held) → length held < 983040 → (ended ≡ true → rest ≡ []) → IsEnough (take 983040 held) rest
shown held rest true enough few end = inr (end refl)
shown held rest false enough few end = inl (subst (λ l. 24 ≤ length l) (sym (take_all 983040 held (omega (arith, few)))) (enough refl))

pub told_open : (file : List ℕ) (left then : Option (List ℕ)) (parts : BlockParser) (held : List ℕ) (ended : Bool) (front : List ℕ) → front ≡ take 983040 held → left ≡ Some file → HasOpened left then held ended
    → ((rest : List ℕ) → IsEnough front rest → packets_of (front ++ rest) ≡ items_at parts (drop parts.place (front ++ rest)))
    → ((rest : List ℕ) → IsEnough front rest → entries_of (front ++ rest) ≡ entries_at parts (drop parts.place (front ++ rest)))
    → parts.place ≤ length front → HasReturned file [] then parts (drop parts.place held) ended
told_open file left then parts held ended front front_is is opened says lists short =
    let came = consumed left then file held is opened.read in
    let whole : front ≡ held = front_is ∙ take_all 983040 held (omega (arith, opened.few)) in
    let end : (ended ≡ true → came.0 ≡ []) = λ e. at_end then came.0 came.1 (opened.end e) in
    let enough : IsEnough front came.0 = subst (λ f. IsEnough f came.0) (sym front_is) (shown held came.0 ended opened.enough opened.few end) in
    let all : file ≡ front ++ came.0 = came.2 ∙ ap (λ l. l ++ came.0) (sym whole) in
    let here : drop parts.place (front ++ came.0) ≡ drop parts.place held ++ came.0 = drop-append-le parts.place front came.0 short ∙ ap (λ l. drop parts.place l ++ came.0) whole in
    record {
      rest = came.0;
      left_is = came.1;
      packets = ap packets_of all ∙ says came.0 enough ∙ ap (items_at parts) here;
      all = ap entries_of all ∙ lists came.0 enough ∙ ap (entries_at parts) here;
      end = end;
    }

pub fault_open : (file : List ℕ) (left then : Option (List ℕ)) (held : List ℕ) (ended : Bool) (fault : CaptureFault) (front : List ℕ) → front ≡ take 983040 held → left ≡ Some file → HasOpened left then held ended
    → ((rest : List ℕ) → IsEnough front rest → packets_of (front ++ rest) ≡ Err fault ∷ []) → packets_of file ≡ Err fault ∷ []
fault_open file left then held ended fault front front_is is opened says =
    let parsed : (rest : List ℕ) → IsEnough (take 983040 held) rest → packets_of (take 983040 held ++ rest) ≡ Err fault ∷ [] =
    subst (λ f. (rest : List ℕ) → IsEnough f rest → packets_of (f ++ rest) ≡ Err fault ∷ []) front_is says in
    let came = consumed left then file held is opened.read in
    let all : take 983040 held ≡ held = take_all 983040 held (omega (arith, opened.few)) in
    let end : (ended ≡ true → came.0 ≡ []) = λ e. at_end then came.0 came.1 (opened.end e) in
    ap packets_of (came.2 ∙ ap (λ l. l ++ came.0) (sym all)) ∙ parsed came.0 (shown held came.0 ended opened.enough opened.few end)

pub lent_some : (held : List ℕ) → 1 ≤ length held → 1 ≤ length (take 983040 held)
lent_some held some = omega (arith, some, length-take 983040 held)

pub lent_within : (held : List ℕ) (len : ℕ) → len ≤ length (take 983040 held) → len ≤ length held
lent_within held len within = omega (arith, within, length-take 983040 held)

pub lent_header : (held : List ℕ) → 24 ≤ length (take 983040 held) → 24 ≤ length held
lent_header held within = omega (arith, within, length-take 983040 held)

pub lent_few : (held : List ℕ) → length (take 983040 held) < 24 → length held < 24
lent_few held within = omega (arith, within, length-take 983040 held)

-- more of the header came
pub header_more : (first left then : Option (List ℕ)) (held longer : List ℕ) (ended : Bool) → Consumes first left held → Reads left then held longer ended → Consumes first then longer
header_more first left then held longer ended before reads = subst (Consumes first then) (sym reads.grown) (Consumes-trans first left then held reads.octets before reads.read)

pub longer_by : (left then : Option (List ℕ)) (held longer : List ℕ) (ended : Bool) (reads : Reads left then held longer ended) → length longer ≡ length held + length reads.octets
longer_by left then held longer ended reads = ap length reads.grown ∙ length-append held reads.octets

pub ok_both : {X E : Type 0} (r : Result X E) (P Q R : X → Type 0) → ((x : X) → P x → Q x → R x) → IfOk r P → IfOk r Q → IfOk r R
ok_both (Ok x) P Q R f p q = f x p q
ok_both (Err e) P Q R f p q = tt

pub ok_each : {X E : Type 0} (r : Result X E) (P Q R S : X → Type 0) → ((x : X) → P x → Q x → R x → S x) → IfOk r P → IfOk r Q → IfOk r R → IfOk r S
ok_each (Ok x) P Q R S f p q r = f x p q r
ok_each (Err e) P Q R S f p q r = tt

pub err_both : {X E : Type 0} (r : Result X E) (P : E → Type 0) (Q : Type 0) (R : E → Type 0) → ((e : E) → P e → Q → R e) → IfErr r P → OnErr r Q → IfErr r R
err_both (Ok x) P Q R f p q = tt
err_both (Err e) P Q R f p q = f e p q

-- the file ends within the next record or block
pub told_cut : (file : List ℕ) (entries : List Entry) (left : Option (List ℕ)) (parts : BlockParser) (held : List ℕ) (ended : Bool) (front : List ℕ)
    → front ≡ take 983040 held → IsNext parts held ended → is_cut_in parts front ≡ true → HasReturned file entries left parts held ended → IsCutBehind file entries
told_cut file entries left parts held ended front is next cut told =
    let short : (ended ≡ true) × (length held < 983040) = elim next.filled [
      | inl whole ↦ absurd (let f : false ≡ true = sym whole ∙ ap (is_cut_in parts) (sym is) ∙ cut in cc)
      | inr few ↦ few
    ] in
    let all : front ≡ held = is ∙ take_all 983040 held (omega (arith, short.1)) in
    let none : held ++ told.rest ≡ held = ap (λ l. held ++ l) (told.end short.0) ∙ append-nil held in
    record {
      parts = parts;
      left = held;
      some = next.some;
      cut = ap (is_cut_in parts) (sym all) ∙ cut;
      packets = told.packets ∙ ap (λ l. map Ok (packets_among entries) ++ items_at parts l) none;
      all = told.all ∙ ap (λ l. entries ++ entries_at parts l) none;
    }

-- the record or the block that begins there is cut
cut_by : (file : List ℕ) (entries : List Entry) (parts : BlockParser) (held : List ℕ) → 1 ≤ length held → is_cut_in parts held ≡ true
    → packets_of file ≡ map Ok (packets_among entries) ++ items_at parts held → entries_of file ≡ entries ++ entries_at parts held → EndsWith file entries (cut_fault_of parts held)
cut_by file entries parts [] some cut packets all = absurd (omega (arith, some))
cut_by file entries parts (octet ∷ octets) some cut packets all = record {
  cut = record { parts = parts; left = octet ∷ octets; some = some; cut = cut; packets = packets; all = all };
  place = refl;
  kind = refl;
}

pub ends_cut : (file : List ℕ) (entries : List Entry) (left : Option (List ℕ)) (parts : BlockParser) (held : List ℕ) (ended : Bool) (front : List ℕ)
    → front ≡ take 983040 held → IsNext parts held ended → is_cut_in parts front ≡ true → HasReturned file entries left parts held ended → EndsWith file entries (cut_fault_of parts held)
ends_cut file entries left parts held ended front is next cut told =
    let short : (ended ≡ true) × (length held < 983040) = elim next.filled [
      | inl whole ↦ absurd (let f : false ≡ true = sym whole ∙ ap (is_cut_in parts) (sym is) ∙ cut in cc)
      | inr few ↦ few
    ] in
    let all : front ≡ held = is ∙ take_all 983040 held (omega (arith, short.1)) in
    let none : held ++ told.rest ≡ held = ap (λ l. held ++ l) (told.end short.0) ∙ append-nil held in
    cut_by file entries parts held next.some (ap (is_cut_in parts) (sym all) ∙ cut)
    (told.packets ∙ ap (λ l. map Ok (packets_among entries) ++ items_at parts l) none) (told.all ∙ ap (λ l. entries ++ entries_at parts l) none)

-- no octet is left
pub ends_whole : (file : List ℕ) (entries : List Entry) (parts : BlockParser) (left : List ℕ) → left ≡ [] → HasEntries file entries → EndsWith file entries (cut_fault_of parts left)
ends_whole file entries parts left none has = subst (λ l. EndsWith file entries (cut_fault_of parts l)) (sym none) has

-- the fault of the rest of the file, by the octets of `front`
pub no_cut : (parts : BlockParser) (held front : List ℕ) → front ≡ take 983040 held → length front < 1 → None ≡ cut_fault_of parts held
no_cut parts held front is few = sym (ap (cut_fault_of parts) (none_taken held (sym is ∙ nil_from_length front (omega (arith, few)))))

pub one_cut : (parts : BlockParser) (held front : List ℕ) (place : ℕ) → front ≡ take 983040 held → 1 ≤ length front → place ≡ parts.place → Some (record { place = place; kind = Truncated }) ≡ cut_fault_of parts held
one_cut parts [] front place is some same =
    let long = subst (λ l. 1 ≤ length l) is some in
    absurd (omega (arith, long))
one_cut parts (octet ∷ octets) front place is some same = ap (λ n. Some (record { place = n; kind = Truncated })) same
