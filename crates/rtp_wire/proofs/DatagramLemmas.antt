-- The parts of a datagram and their places.
use Rattle.std.proofs.Common.{◌≡◌, ◌<◌, ◌≤◌, ◌+◌, ◌-◌, ◌*◌, ◌/◌, ◌%◌, ◌^◌, ℕ, Bool, true, false, List, [], ◌∷◌, ◌++◌, length, take, drop, slice_index, slice_range, refl, sym, ap, subst, ◌∙◌, arith, MatchBool, ◌==◌, not, ◌&&◌, ◌||◌, get_or, leb, nat_lt, nat_le, cond, Option, Some, None}
use Rattle.std.proofs.lemmas.Bool.Decides.{nat_tests}
use Rattle.rtp_wire.specs.Octets.{big_endian, octets_of, AreOctets}
use Rattle.rtp_wire.specs.Head.{Head, FitsHeader, bit, octets_after, head_octets}
use Rattle.rtp_wire.specs.declared.fault.WireFault.{WireFault}
use Rattle.rtp_wire.specs.declared.fault.WireFault.TheVariants.{Short, Version, CsrcCut, ExtensionCut, Padding}
use Rattle.rtp_wire.specs.Datagram.{IsExtension, IsPadding, IsDatagram, head_at, payload_at, version_of, sources_end, word_count, payload_start, padding_count, is_padded, is_extended, has_bad_padding, wire_fault_of}
use Rattle.std.proofs.lemmas.List.{take_rest, drop_more, drop_all, length-drop, get_or-drop, take-append-drop, get_or_at, append_assoc, append-nil, length-append}
use Rattle.byteorder.specs.Endian.{big_number}
use Rattle.rtp_wire.proofs.OctetsLemmas.{big_endian-octets_of_two, big_endian-octets_of_four, big_endian-range, octets_of-range_two, octets_of-range_four, take-range, range_at, range-range, length-range, big_endian-fits_two, big_endian-fits_four}

-- the version, the padding flag, the extension flag and the number of sources in a first octet
pub record Announces (n : ℕ) (p x : Bool) (k : ℕ) : Type 0 where
  pub version : n / 64 ≡ 2
  pub padded : (n / 32 % 2 == 1) ≡ p
  pub extended : (n / 16 % 2 == 1) ≡ x
  pub count : n % 16 ≡ k

pub announced : (padded extended : Bool) (count n : ℕ) → count < 16 → n ≡ 128 + 32 * bit padded + 16 * bit extended + count → Announces n padded extended count
announced true true count n h e =
    let p : n / 32 % 2 ≡ 1 = omega arith in
    let x : n / 16 % 2 ≡ 1 = omega arith in
    record { version = omega arith; padded = rw p refl; extended = rw x refl; count = omega arith }
announced true false count n h e =
    let p : n / 32 % 2 ≡ 1 = omega arith in
    let x : n / 16 % 2 ≡ 0 = omega arith in
    record { version = omega arith; padded = rw p refl; extended = rw x refl; count = omega arith }
announced false true count n h e =
    let p : n / 32 % 2 ≡ 0 = omega arith in
    let x : n / 16 % 2 ≡ 1 = omega arith in
    record { version = omega arith; padded = rw p refl; extended = rw x refl; count = omega arith }
announced false false count n h e =
    let p : n / 32 % 2 ≡ 0 = omega arith in
    let x : n / 16 % 2 ≡ 0 = omega arith in
    record { version = omega arith; padded = rw p refl; extended = rw x refl; count = omega arith }

-- an octet of version 2 is the sum of what it announces
pub first_octet : (n : ℕ) → n / 64 ≡ 2 → n ≡ 128 + 32 * bit (n / 32 % 2 == 1) + 16 * bit (n / 16 % 2 == 1) + n % 16
first_octet n h = grind (arith, nat_tests)

-- the second octet's marker and type
pub marker-octet : (marker : Bool) (pt n : ℕ) → pt < 128 → n ≡ 128 * bit marker + pt → leb 128 n ≡ marker
marker-octet true pt n h e = grind (arith, nat_tests)
marker-octet false pt n h e = grind (arith, nat_tests)

pub second_octet : (n : ℕ) → n < 256 → 128 * bit (leb 128 n) + n % 128 ≡ n
second_octet n h = grind (arith, nat_tests)

pub type-octet : (marker : Bool) (pt n : ℕ) → pt < 128 → n ≡ 128 * bit marker + pt → n % 128 ≡ pt
type-octet true pt n h e = omega arith
type-octet false pt n h e = omega arith

-- octets that begin with a header have its fields at their places
pub head_at-octets_after : (first : ℕ) (head : Head) (rest : List ℕ) → FitsHeader head → head_at (octets_after first head ++ rest) ≡ head
head_at-octets_after first head rest fits =
    let marker = marker-octet head.marker head.pt (128 * bit head.marker + head.pt) fits.pt refl in
    let pt = type-octet head.marker head.pt (128 * bit head.marker + head.pt) fits.pt refl in
    let seq = big_endian-octets_of_two head.seq fits.seq in
    let ts = big_endian-octets_of_four head.ts fits.ts in
    let ssrc = big_endian-octets_of_four head.ssrc fits.ssrc in
    rw (marker, pt, seq, ts, ssrc) refl

-- the fields that the code reads are those at their places
pub head_at-read : (d : List ℕ) (seq ts ssrc : ℕ) → 12 ≤ length d
    → seq ≡ big_number 2 (take (length d - 2) (drop 2 d)) → ts ≡ big_number 4 (take (length d - 4) (drop 4 d))
    → ssrc ≡ big_number 4 (take (length d - 8) (drop 8 d))
    → record { marker = leb 128 (slice_index d 1); pt = slice_index d 1 % 128; seq = seq; ts = ts; ssrc = ssrc } ≡ head_at d
head_at-read d seq ts ssrc h e_seq e_ts e_ssrc =
    let is_seq : seq ≡ big_endian (slice_range d 2 4) = e_seq ∙ ap (big_number 2) (take_rest d 2) ∙ sym (big_endian-range d 2 4 2 refl (omega arith)) in
    let is_ts : ts ≡ big_endian (slice_range d 4 8) = e_ts ∙ ap (big_number 4) (take_rest d 4) ∙ sym (big_endian-range d 4 8 4 refl (omega arith)) in
    let is_ssrc : ssrc ≡ big_endian (slice_range d 8 12) = e_ssrc ∙ ap (big_number 4) (take_rest d 8) ∙ sym (big_endian-range d 8 12 4 refl (omega arith)) in
    cc

-- the fields at their places fit their bits
FitsHeader-head_at : (d : List ℕ) → AreOctets d → 12 ≤ length d → FitsHeader (head_at d)
FitsHeader-head_at d octets h = record {
  pt = omega arith;
  seq = big_endian-fits_two d 2 4 octets refl (omega arith);
  ts = big_endian-fits_four d 4 8 octets refl (omega arith);
  ssrc = big_endian-fits_four d 8 12 octets refl (omega arith);
}

-- the first twelve octets are those of the header that is read from them
pub octets_after-head_at : (d : List ℕ) → AreOctets d → 12 ≤ length d → octets_after (slice_index d 0) (head_at d) ≡ take 12 d
octets_after-head_at d octets h =
    let seq : List ℕ = octets_of 2 (big_endian (slice_range d 2 4)) in
    let ts : List ℕ = octets_of 4 (big_endian (slice_range d 4 8)) in
    let ssrc : List ℕ = octets_of 4 (big_endian (slice_range d 8 12)) in
    let second = second_octet (slice_index d 1) (octets 1) in
    let cells : d ≡ slice_index d 0 ∷ slice_index d 1 ∷ drop 2 d =
    drop_more d 0 0 (omega arith) ∙ ap (λ r. slice_index d 0 ∷ r) (drop_more d 1 0 (omega arith)) in
    let front : take 2 d ≡ slice_index d 0 ∷ slice_index d 1 ∷ [] = ap (take 2) cells in
    let is_seq : seq ≡ slice_range d 2 4 = octets_of-range_two d 2 4 octets refl (omega arith) in
    let is_ts : ts ≡ slice_range d 4 8 = octets_of-range_four d 4 8 octets refl (omega arith) in
    let is_ssrc : ssrc ≡ slice_range d 8 12 = octets_of-range_four d 8 12 octets refl (omega arith) in
    ap (λ n. (((slice_index d 0 ∷ n ∷ []) ++ seq) ++ ts) ++ ssrc) second
    ∙ ap (λ r. ((r ++ seq) ++ ts) ++ ssrc) (sym front)
    ∙ ap (λ r. ((take 2 d ++ r) ++ ts) ++ ssrc) is_seq
    ∙ ap (λ r. (r ++ ts) ++ ssrc) (take-range d 2 4 (omega arith))
    ∙ ap (λ r. (take 4 d ++ r) ++ ssrc) is_ts
    ∙ ap (λ r. r ++ ssrc) (take-range d 4 8 (omega arith))
    ∙ ap (λ r. take 8 d ++ r) is_ssrc
    ∙ take-range d 8 12 (omega arith)

-- no test finds a fault
pub record IsWhole (d : List ℕ) : Type 0 where
  pub header : 12 ≤ length d
  pub version : version_of d ≡ 2
  pub sources : sources_end d ≤ length d
  pub extension : payload_start d ≤ length d
  pub padding : has_bad_padding d ≡ false

first_none : (b : Bool) (f : WireFault) (r : Option WireFault) → cond b (Some f) r ≡ None → (b ≡ false) × (r ≡ None)
first_none true f r e = cc
first_none false f r e = (refl, e)

not_below : (a b : ℕ) → nat_lt a b ≡ false → b ≤ a
not_below a b e = grind (arith, nat_tests)

is_two : (n : ℕ) → not (n == 2) ≡ false → n ≡ 2
is_two n e = grind (arith, nat_tests)

not_less : (a b : ℕ) → b ≤ a → nat_lt a b ≡ false
not_less a b h = grind (arith, nat_tests)

pub IsWhole-from_none : (d : List ℕ) → wire_fault_of d ≡ None → IsWhole d
IsWhole-from_none d e =
    let at_padding : Option WireFault = cond (has_bad_padding d) (Some Padding) None in
    let at_extension : Option WireFault = cond (nat_lt (length d) (payload_start d)) (Some ExtensionCut) at_padding in
    let at_sources : Option WireFault = cond (nat_lt (length d) (sources_end d)) (Some CsrcCut) at_extension in
    let at_version : Option WireFault = cond (not (version_of d == 2)) (Some Version) at_sources in
    let a = first_none (nat_lt (length d) 12) Short at_version e in
    let b = first_none (not (version_of d == 2)) Version at_sources a.1 in
    let c = first_none (nat_lt (length d) (sources_end d)) CsrcCut at_extension b.1 in
    let x = first_none (nat_lt (length d) (payload_start d)) ExtensionCut at_padding c.1 in
    let p = first_none (has_bad_padding d) Padding None x.1 in
    record {
      header = not_below (length d) 12 a.0;
      version = is_two (version_of d) b.0;
      sources = not_below (length d) (sources_end d) c.0;
      extension = not_below (length d) (payload_start d) x.0;
      padding = p.0;
    }

pub none_from_IsWhole : (d : List ℕ) → IsWhole d → wire_fault_of d ≡ None
none_from_IsWhole d w =
    let a = not_less (length d) 12 w.header in
    let c = not_less (length d) (sources_end d) w.sources in
    let x = not_less (length d) (payload_start d) w.extension in
    rw (a, w.version, c, x, w.padding) refl

-- the octets between the sources and the payload are a header extension if it is announced, and none otherwise
extension_part : (d : List ℕ) (extended : Bool) (place begin : ℕ) → AreOctets d → begin ≡ cond extended (place + 4 + 4 * word_count d place) place → begin ≤ length d
    → MatchBool extended (IsExtension (slice_range d place begin)) (slice_range d place begin ≡ [])
extension_part d true place begin octets e h =
    let whole : List ℕ = slice_range d place begin in
    let count : octets_of 2 (word_count d place) ≡ slice_range d (place + 2) (place + 4) = octets_of-range_two d (place + 2) (place + 4) octets (omega arith) (omega arith) in
    let fits : word_count d place < 2 ^ 16 = big_endian-fits_two d (place + 2) (place + 4) octets (omega arith) (omega arith) in
    record {
      profile = slice_range d place (place + 2);
      count = word_count d place;
      words = slice_range d (place + 4) begin;
      two = length-range d place (place + 2) (omega arith) (omega arith) ∙ omega arith;
      count_fits = fits;
      four_each = length-range d (place + 4) begin (omega arith) h ∙ omega arith;
      layout = sym (
          ap (λ r. (slice_range d place (place + 2) ++ r) ++ slice_range d (place + 4) begin) count
          ∙ ap (λ r. r ++ slice_range d (place + 4) begin) (range-range d place (place + 2) (place + 4) (omega arith) (omega arith))
          ∙ range-range d place (place + 4) begin (omega arith) (omega arith)
          );
    }
extension_part d false place begin octets e h = let none : begin - place ≡ 0 = omega arith in rw none refl

begins_after : (extended : Bool) (place count : ℕ) → place ≤ cond extended (place + 4 + 4 * count) place
begins_after true place count = omega arith
begins_after false place count = omega arith

-- the last octets are padding if it is announced, and none otherwise
record PaddingPart (d : List ℕ) (padded : Bool) (begin count : ℕ) : Type 0 where
  pub space : begin + count ≤ length d
  pub part : MatchBool padded (IsPadding (drop (length d - count) d)) (drop (length d - count) d ≡ [])

padding_part : (d : List ℕ) (padded : Bool) (begin count : ℕ) → AreOctets d → begin ≤ length d
    → count ≡ cond padded (slice_index d (length d - 1)) 0
    → (padded && (nat_le (length d) begin || count == 0 || nat_lt (length d) (begin + count))) ≡ false
    → PaddingPart d padded begin count
padding_part d true begin count octets h e good =
    let some : 0 < count = grind (arith, nat_tests) in
    let space : begin + count ≤ length d = grind (arith, nat_tests) in
    let part : List ℕ = drop (length d - count) d in
    let len : length part ≡ count = length-drop (length d - count) d ∙ omega arith in
    let fits : count < 256 = rw e (octets (length d - 1)) in
    let place : length d - count + (count - 1) ≡ length d - 1 = omega arith in
    let last : get_or part (count - 1) 0 ≡ count = get_or-drop (length d - count) d (count - 1) 0 ∙ ap (λ i. get_or d i 0) place ∙ sym e in
    let after : count - 1 + 1 ≡ count = omega arith in
    record {
      space = space;
      part = record {
        before = take (count - 1) part;
        fits = omega arith;
        layout =
            sym (take-append-drop (count - 1) part)
            ∙ ap (λ r. take (count - 1) part ++ r) (drop_more part (count - 1) 0 (omega arith) ∙ ap (λ n. n ∷ drop (count - 1 + 1) part) (last ∙ sym len) ∙ ap (λ r. length part ∷ r) (drop_all (count - 1 + 1) part (omega arith)));
      };
    }
padding_part d false begin count octets h e good =
    let same : length d - count ≡ length d = omega arith in
    record { space = omega arith; part = rw same (drop_all (length d) d (omega arith)) }

sources_before : (d : List ℕ) → sources_end d ≤ payload_start d
sources_before d = begins_after (is_extended d) (sources_end d) (word_count d (sources_end d))

-- octets with no fault are a datagram with the header and the payload that are read from them
pub IsDatagram-from_whole : (d : List ℕ) → AreOctets d → IsWhole d → IsDatagram d (head_at d) (payload_at d)
IsDatagram-from_whole d octets w =
    let first : ℕ = slice_index d 0 in
    let count : ℕ = padding_count d in
    let begin : ℕ = payload_start d in
    let place : ℕ = sources_end d in
    let order : place ≤ begin = sources_before d in
    let pad = padding_part d (is_padded d) begin count octets w.extension refl w.padding in
    record {
      padded = is_padded d;
      extended = is_extended d;
      source_count = first % 16;
      sources = slice_range d 12 place;
      extension = slice_range d place begin;
      padding = drop (length d - count) d;
      head_fits = FitsHeader-head_at d octets w.header;
      count_fits = omega arith;
      four_each = length-range d 12 place (omega arith) w.sources ∙ omega arith;
      is_extension = extension_part d (is_extended d) place begin octets refl w.extension;
      is_padding = pad.part;
      layout = sym (
          ap (λ n. (((octets_after n (head_at d) ++ slice_range d 12 place) ++ slice_range d place begin) ++ payload_at d) ++ drop (length d - count) d) (sym (first_octet first w.version))
          ∙ ap (λ r. (((r ++ slice_range d 12 place) ++ slice_range d place begin) ++ payload_at d) ++ drop (length d - count) d) (octets_after-head_at d octets w.header)
          ∙ ap (λ r. ((r ++ slice_range d place begin) ++ payload_at d) ++ drop (length d - count) d) (take-range d 12 place (omega arith))
          ∙ ap (λ r. (r ++ payload_at d) ++ drop (length d - count) d) (take-range d place begin order)
          ∙ ap (λ r. r ++ drop (length d - count) d) (take-range d begin (length d - count) (omega (arith, pad.space)))
          ∙ take-append-drop (length d - count) d
          );
    }

-- equal headers and payloads make the same datagram
pub IsDatagram-same : (d : List ℕ) (h h' : Head) (p p' : List ℕ) → h' ≡ h → p' ≡ p → IsDatagram d h p → IsDatagram d h' p'
IsDatagram-same d h h' p p' e f at = subst (λ x. IsDatagram d x p') (sym e) (subst (λ x. IsDatagram d h x) (sym f) at)

-- the number of words in an extension, read at its place
regroup : (a p o w r : List ℕ) → (a ++ ((p ++ o) ++ w)) ++ r ≡ ((a ++ p) ++ o) ++ (w ++ r)
regroup a p o w r = simp append_assoc

word_count-at : (front extension rest : List ℕ) (place : ℕ) → place ≡ length front → (at : IsExtension extension) → word_count ((front ++ extension) ++ rest) place ≡ at.count
word_count-at front extension rest place e at =
    let octets : List ℕ = octets_of 2 at.count in
    let regrouped : (front ++ extension) ++ rest ≡ ((front ++ at.profile) ++ octets) ++ (at.words ++ rest) =
    ap (λ r. (front ++ r) ++ rest) at.layout ∙ regroup front at.profile octets at.words rest in
    let after : place + 2 ≡ length (front ++ at.profile) = omega (arith, length-append front at.profile, at.two) in
    ap (λ r. word_count r place) regrouped
    ∙ ap big_endian (range_at (front ++ at.profile) octets (at.words ++ rest) (place + 2) (place + 4) after (omega arith))
    ∙ big_endian-octets_of_two at.count at.count_fits

-- where the payload begins, counted from the extension before it
begin_after : (d front extension rest : List ℕ) (extended : Bool) (place : ℕ) → d ≡ (front ++ extension) ++ rest → place ≡ length front
    → MatchBool extended (IsExtension extension) (extension ≡ []) → cond extended (place + 4 + 4 * word_count d place) place ≡ place + length extension
begin_after d front extension rest true place e at part =
    let count : word_count d place ≡ part.count = ap (λ r. word_count r place) e ∙ word_count-at front extension rest place at part in
    let len : length extension ≡ length (part.profile ++ octets_of 2 part.count) + length part.words =
    ap length part.layout ∙ length-append (part.profile ++ octets_of 2 part.count) part.words in
    let front_len = length-append part.profile (octets_of 2 part.count) in
    omega (arith, count, len, front_len, part.two, part.four_each)
begin_after d front extension rest false place e at part =
    let none : length extension ≡ 0 = ap length part in
    omega arith

-- the number of octets of padding, read from the last of them
count_before : (d front padding : List ℕ) (padded : Bool) → d ≡ front ++ padding → MatchBool padded (IsPadding padding) (padding ≡ [])
    → cond padded (slice_index d (length d - 1)) 0 ≡ length padding
count_before d front padding true e part =
    let last : List ℕ = length padding ∷ [] in
    let whole : d ≡ (front ++ part.before) ++ last = e ∙ ap (λ r. front ++ r) part.layout ∙ sym (append_assoc front part.before last) in
    let len : length d ≡ length (front ++ part.before) + 1 = ap length whole ∙ length-append (front ++ part.before) last in
    let place : length (front ++ part.before) ≡ length d - 1 = omega arith in
    ap (λ r. slice_index r (length d - 1)) whole ∙ get_or_at (front ++ part.before) (length padding) [] 0 (length d - 1) place
count_before d front padding false e part = sym (ap length part)

-- padding that is there is counted right
good_padding : (padded : Bool) (begin size len : ℕ) (padding : List ℕ) → begin + size + length padding ≡ len → MatchBool padded (IsPadding padding) (padding ≡ [])
    → (padded && (nat_le len begin || length padding == 0 || nat_lt len (begin + length padding))) ≡ false
good_padding true begin size len padding e part =
    let some : length padding ≡ length part.before + 1 = ap length part.layout ∙ length-append part.before (length padding ∷ []) in
    grind (arith, nat_tests)
good_padding false begin size len padding e part = refl

-- the header and the payload at their places in a datagram's octets
pub record Places (d : List ℕ) (head : Head) (payload : List ℕ) : Type 0 where
  pub head_is : head_at d ≡ head
  pub payload_is : payload_at d ≡ payload
  pub whole : IsWhole d

regroup_all : (f s e p q : List ℕ) → (((f ++ s) ++ e) ++ p) ++ q ≡ f ++ (s ++ (e ++ (p ++ q)))
regroup_all f s e p q = simp append_assoc

pub Places-of : (d : List ℕ) (head : Head) (payload : List ℕ) → IsDatagram d head payload → Places d head payload
Places-of d head payload at =
    let first : ℕ = 128 + 32 * bit at.padded + 16 * bit at.extended + at.source_count in
    let front : List ℕ = octets_after first head in
    let regrouped : d ≡ front ++ (at.sources ++ (at.extension ++ (payload ++ at.padding))) =
    at.layout ∙ regroup_all front at.sources at.extension payload at.padding in
    let octet : slice_index d 0 ≡ first = ap (λ r. slice_index r 0) regrouped in
    let says = announced at.padded at.extended at.source_count (slice_index d 0) at.count_fits octet in
    let before : List ℕ = front ++ at.sources in
    let before_len : length before ≡ 12 + length at.sources = length-append front at.sources in
    let place : sources_end d ≡ length before = omega (arith, says.count, at.four_each) in
    let begin_len : length (before ++ at.extension) ≡ length before + length at.extension = length-append before at.extension in
    let end_len : length ((before ++ at.extension) ++ payload) ≡ length (before ++ at.extension) + length payload = length-append (before ++ at.extension) payload in
    let len : length d ≡ length ((before ++ at.extension) ++ payload) + length at.padding = ap length at.layout ∙ length-append ((before ++ at.extension) ++ payload) at.padding in
    let begin : payload_start d ≡ sources_end d + length at.extension =
    ap (λ b. cond b (sources_end d + 4 + 4 * word_count d (sources_end d)) (sources_end d)) says.extended
    ∙ begin_after d before at.extension (payload ++ at.padding) at.extended (sources_end d) (at.layout ∙ append_assoc (before ++ at.extension) payload at.padding) place at.is_extension in
    let count : padding_count d ≡ length at.padding =
    ap (λ b. cond b (slice_index d (length d - 1)) 0) says.padded
    ∙ count_before d ((before ++ at.extension) ++ payload) at.padding at.padded at.layout at.is_padding in
    let begin_is : payload_start d ≡ length (before ++ at.extension) = omega arith in
    let end_is : length d - padding_count d ≡ payload_start d + length payload = omega arith in
    record {
      head_is = ap head_at regrouped ∙ head_at-octets_after first head (at.sources ++ (at.extension ++ (payload ++ at.padding))) at.head_fits;
      payload_is =
          ap (λ r. slice_range r (payload_start d) (length d - padding_count d)) at.layout
          ∙ range_at (before ++ at.extension) payload at.padding (payload_start d) (length d - padding_count d) begin_is end_is;
      whole = record {
        header = omega arith;
        version = says.version;
        sources = omega arith;
        extension = omega arith;
        padding =
            ap (λ b. b && (nat_le (length d) (payload_start d) || padding_count d == 0 || nat_lt (length d) (payload_start d + padding_count d))) says.padded
            ∙ ap (λ n. at.padded && (nat_le (length d) (payload_start d) || n == 0 || nat_lt (length d) (payload_start d + n))) count
            ∙ good_padding at.padded (payload_start d) (length payload) (length d) at.padding (omega arith) at.is_padding;
      };
    }

-- twelve octets of a header and any payload are a datagram
pub IsDatagram-head_octets : (head : Head) (payload : List ℕ) → FitsHeader head → IsDatagram (head_octets head ++ payload) head payload
IsDatagram-head_octets head payload fits = record {
  padded = false;
  extended = false;
  source_count = 0;
  sources = [];
  extension = [];
  padding = [];
  head_fits = fits;
  count_fits = omega arith;
  four_each = refl;
  is_extension = refl;
  is_padding = refl;
  layout = sym (append-nil (head_octets head ++ payload));
}
