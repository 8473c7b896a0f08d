-- A block that is written is read as a whole one.
use Rattle.std.proofs.Common.{◌≡◌, ◌<◌, ◌≤◌, ◌+◌, ◌-◌, ◌%◌, ◌^◌, ℕ, true, false, List, [], ◌++◌, length, Option, Ok, nat_lt, ◌==◌, refl, ap, ◌∙◌, inl, arith, length-append}
use Rattle.std.proofs.Math.Seq.{drop-length, take-length}
use Rattle.std.proofs.lemmas.Bool.Decides.{nat_tests}
use Rattle.byteorder.specs.Endian.{little_bytes}
use Rattle.pcap_file.specs.declared.cursor.Format.TheVariants as format
use Rattle.pcap_file.specs.declared.decode.interface.Interface.{Interface}
use Rattle.pcap_file.specs.declared.decode.record_mark.RecordMark.{RecordMark}
use Rattle.pcap_file.specs.declared.decode.endian.Endian.{Endian}
use Rattle.pcap_file.specs.declared.decode.endian.Endian.TheVariants.{Little}
use Rattle.pcap_file.specs.Chain.{and_then}
use Rattle.pcap_file.specs.Octets.{number_at}
use Rattle.pcap_file.specs.Packet.{PacketView}
use Rattle.pcap_file.specs.Section.{SectionView, block_in, block_of, block_within, content_of, length_of, order_of, with_length}
use Rattle.pcap_file.specs.Capture.{State, packets_from, part_as, with_packet}
use Rattle.pcap_file.specs.Entries.{entries_from, entries_in}
use Rattle.pcap_file.specs.BlockParser.{is_block_cut}
use Rattle.pcap_file.proofs.EntryLemmas.{passed_entries}
use Rattle.pcap_file.proofs.BlockParserLemmas.{passed_part}
use Rattle.pcap_file.specs.Blocks.{block_octets}
use Rattle.pcap_file.proofs.OctetLemmas.{number_behind}

pub not_below : (a b : ℕ) → b ≤ a → nat_lt a b ≡ false
not_below a b h = grind (arith, nat_tests)

pub same_as : (a b : ℕ) → a ≡ b → (a == b) ≡ true
same_as a b h = grind (arith, nat_tests)

-- the tests of a length that is at both ends
length_by : (octets : List ℕ) (len : ℕ) → number_at Little 4 4 octets ≡ len → number_at Little 4 (len - 4) octets ≡ len → len ≡ length octets → 12 ≤ len → len % 4 ≡ 0
    → length_of Little octets ≡ Ok len
unfolding length_of
length_by octets len first last count long words =
    rw (first, not_below len 12 long, same_as (len % 4) 0 words, not_below (length octets) len (omega (arith, count)), last, same_as len len refl) refl

-- a block that is read with this length and this content
pub record IsWhole (octets : List ℕ) : Type 0 where
  pub length_is : length_of Little octets ≡ Ok (length octets)
  pub first : number_at Little 4 4 octets ≡ length octets
  pub long : 12 ≤ length octets
  pub words : length octets % 4 ≡ 0

pub whole_block : (kind : ℕ) (held : List ℕ) → length held % 4 ≡ 0 → 12 + length held < 2 ^ 32 → IsWhole (block_octets kind held)
unfolding block_octets
whole_block kind held words fits =
    let len : ℕ = 12 + length held in
    let k : List ℕ = little_bytes 4 kind in
    let l : List ℕ = little_bytes 4 len in
    let octets : List ℕ = k ++ l ++ held ++ l in
    let count : len ≡ length octets = omega (arith, length-append (k ++ l ++ held) l, length-append (k ++ l) held) in
    let first : number_at Little 4 4 octets ≡ len = number_behind 4 4 len k (held ++ l) octets refl refl fits in
    let last : number_at Little 4 (len - 4) octets ≡ len = number_behind 4 (len - 4) len (k ++ l ++ held) [] octets refl (omega (arith, length-append (k ++ l) held)) fits in
    record {
      length_is = length_by octets len first last count (omega arith) (omega (arith, words)) ∙ ap (λ n. Ok n) count;
      first = first ∙ count;
      long = omega (arith, count);
      words = omega (arith, count, words);
    }

-- the content of a block is read from all of it
pub read_whole : (order : Endian) (interfaces : List Interface) (octets : List ℕ) → order_of order octets ≡ Ok Little → IsWhole octets
    → block_of (record { order = order; interfaces = interfaces }) octets
    ≡ and_then (content_of (record { order = Little; interfaces = interfaces }) octets) (with_length (length octets) octets)
unfolding block_of
read_whole order interfaces octets is whole =
    let section : SectionView = record { order = Little; interfaces = interfaces } in
    rw (not_below (length octets) 12 whole.long)
    (ap (λ r. and_then r (block_in interfaces octets)) is ∙ ap (λ r. and_then r (block_within section octets)) whole.length_is
    ∙ ap (λ l. and_then (content_of section l) (with_length (length octets) l)) (take-length octets))

uncut : (order : Endian) (octets : List ℕ) → order_of order octets ≡ Ok Little → IsWhole octets → is_block_cut order octets ≡ false
uncut order octets is whole = rw (is, whole.first, not_below (length octets) 12 whole.long, not_below (length octets) (length octets) (omega arith), same_as (length octets % 4) 0 whole.words) refl

-- a place in a record
abbrev pub at : List Interface → State
at interfaces = record { format = format.Pcapng; section = record { order = Little; interfaces = interfaces } }

-- the packet and the mark of a block come before those behind it
pub record Tells (order : Endian) (old new : List Interface) (octets : List ℕ) (packet : Option PacketView) (tells : Option RecordMark) : Type 0 where
  pub order_is : order_of order octets ≡ Ok Little
  pub whole : IsWhole octets
  pub holds : and_then (content_of (record { order = Little; interfaces = old }) octets) (with_length (length octets) octets)
      ≡ Ok (record { part = record { len = length octets; packet = packet; mark = tells }; section = record { order = Little; interfaces = new } })

abbrev pub from : Endian → List Interface → State
from order interfaces = record { format = format.Pcapng; section = record { order = order; interfaces = interfaces } }

pub told_packet : (order : Endian) (old new : List Interface) (octets rest : List ℕ) (packet : Option PacketView) (tells : Option RecordMark) (place : ℕ)
    → Tells order old new octets packet tells
    → packets_from (from order old) place (octets ++ rest) ≡ with_packet packet (packets_from (at new) (place + length octets) rest)
unfolding part_as
told_packet order old new octets rest packet tells place told =
    passed_part (from order old) (at new) place place (length octets) octets rest packet tells (omega (arith, told.whole.long)) (omega (arith, told.whole.long)) (omega arith)
    (read_whole order old octets told.order_is told.whole ∙ told.holds, refl) refl (inl (uncut order octets told.order_is told.whole))
    ∙ ap (λ l. with_packet packet (packets_from (at new) (place + length octets) (l ++ rest))) (drop-length octets)

pub told_entries : (order : Endian) (old new : List Interface) (octets rest : List ℕ) (packet : Option PacketView) (tells : Option RecordMark)
    → Tells order old new octets packet tells
    → entries_from (from order old) (octets ++ rest) ≡ entries_in packet tells ++ entries_from (at new) rest
unfolding part_as
told_entries order old new octets rest packet tells told =
    passed_entries (from order old) (at new) (length octets) octets rest packet tells (omega (arith, told.whole.long)) (omega (arith, told.whole.long)) (omega arith)
    (read_whole order old octets told.order_is told.whole ∙ told.holds, refl) (inl (uncut order octets told.order_is told.whole))
    ∙ ap (λ l. entries_in packet tells ++ entries_from (at new) (l ++ rest)) (drop-length octets)
