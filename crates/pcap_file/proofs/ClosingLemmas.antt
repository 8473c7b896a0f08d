-- The close of a record is read as its mark.
use Rattle.std.proofs.Common.{◌≡◌, ◌<◌, ◌≤◌, ◌+◌, ◌*◌, ◌/◌, ◌%◌, ◌^◌, ℕ, List, ◌++◌, length, slice_get, Option, Some, None, Ok, nat_lt, nat_le, true, refl, sym, ap, ◌∙◌, arith, append_assoc, length-append}
use Rattle.std.proofs.lemmas.Bool.Decides.{nat_tests}
use Rattle.byteorder.specs.Endian.{little_bytes}
use Rattle.pcap_file.specs.declared.decode.interface.Interface.{Interface}
use Rattle.pcap_file.specs.declared.decode.record_mark.RecordMark.{RecordMark}
use Rattle.pcap_file.specs.declared.decode.record_mark.RecordMark.TheVariants.{Closed}
use Rattle.pcap_file.specs.declared.decode.endian.Endian.TheVariants.{Little}
use Rattle.pcap_file.specs.Chain.{and_then}
use Rattle.pcap_file.specs.Octets.{number_at}
use Rattle.pcap_file.specs.Interface.{time_of, time_units}
use Rattle.pcap_file.specs.Mark.{closed_by, mark_of}
use Rattle.pcap_file.specs.Section.{content_as, content_of, order_of, with_length}
use Rattle.pcap_file.specs.Blocks.{block_octets, closing_block, closing_body}
use Rattle.pcap_file.proofs.WriteInterfaceLemmas.{raw}
use Rattle.pcap_file.proofs.OctetLemmas.{number_behind}
use Rattle.pcap_file.proofs.WholeLemmas.{IsWhole, Tells, not_below, whole_block}

-- a time in nanoseconds is its own
pub time_raw : (time : ℕ) → time < 2 ^ 64 → time_of raw time ≡ Some time
unfolding time_of raw
time_raw time fits =
    let same : time * 1_000_000_000 / 1_000_000_000 ≡ time = omega arith in
    let below : nat_lt time (2 ^ 64) ≡ true = grind (arith, nat_tests, fits) in
    let plus : time + 0 ≡ time = omega arith in
    let least : nat_le 0 time ≡ true = grind (arith, nat_tests) in
    rw (same, plus, least, below) refl

words_back : (time : ℕ) → time < 2 ^ 64 → time / 2 ^ 32 * 2 ^ 32 + time % 2 ^ 32 ≡ time
words_back time fits = omega arith

-- two words behind twelve octets are a time's
pub units_by : (time : ℕ) (block front rest : List ℕ) → time < 2 ^ 64 → block ≡ front ++ (little_bytes 4 (time / 2 ^ 32) ++ (little_bytes 4 (time % 2 ^ 32) ++ rest)) → 12 ≡ length front
    → time_units Little block ≡ time
units_by time block front rest fits is place =
    let high : number_at Little 4 12 block ≡ time / 2 ^ 32 =
    number_behind 4 12 (time / 2 ^ 32) front (little_bytes 4 (time % 2 ^ 32) ++ rest) block is place (omega (arith, fits)) in
    let low : number_at Little 4 16 block ≡ time % 2 ^ 32 =
    number_behind 4 16 (time % 2 ^ 32) (front ++ little_bytes 4 (time / 2 ^ 32)) rest block (is ∙ sym (append_assoc front (little_bytes 4 (time / 2 ^ 32)) (little_bytes 4 (time % 2 ^ 32) ++ rest)))
    (omega (arith, place, length-append front (little_bytes 4 (time / 2 ^ 32)))) (omega arith) in
    rw (high, low) (words_back time fits)

front : List ℕ
front = little_bytes 4 5 ++ little_bytes 4 24 ++ little_bytes 4 0

front_size : 12 ≡ length front
unfolding front
front_size = refl

pieces : (time : ℕ) → closing_block time ≡ front ++ (little_bytes 4 (time / 2 ^ 32) ++ (little_bytes 4 (time % 2 ^ 32) ++ little_bytes 4 24))
unfolding closing_block block_octets closing_body front
pieces time = refl

whole_closing : (time : ℕ) → IsWhole (closing_block time)
unfolding closing_block closing_body
whole_closing time = whole_block 5 (closing_body time) refl (omega arith)

order_closing : (time : ℕ) → order_of Little (closing_block time) ≡ Ok Little
unfolding order_of number_at closing_block block_octets
order_closing time = refl

kind_closing : (time : ℕ) → number_at Little 4 0 (closing_block time) ≡ 5
unfolding number_at closing_block block_octets
kind_closing time = refl

number_closing : (time : ℕ) → number_at Little 4 8 (closing_block time) ≡ 0
unfolding number_at closing_block block_octets closing_body
number_closing time = refl

size_closing : (time : ℕ) → length (closing_block time) ≡ 24
unfolding closing_block block_octets closing_body
size_closing time = refl

passes : (interfaces : List Interface) (block : List ℕ) → number_at Little 4 0 block ≡ 5
    → content_of (record { order = Little; interfaces = interfaces }) block ≡ Ok (record { packet = None; section = record { order = Little; interfaces = interfaces } })
unfolding content_as
passes interfaces block kind = rw kind refl

closes : (interfaces : List Interface) (block : List ℕ) (time : ℕ) → number_at Little 4 0 block ≡ 5 → 24 ≤ length block → number_at Little 4 8 block ≡ 0
    → slice_get interfaces 0 ≡ Some raw → time_units Little block ≡ time → time_of raw time ≡ Some time → mark_of Little interfaces block ≡ Some (Closed time)
unfolding closed_by
closes interfaces block time kind long number first units is =
    rw (kind, not_below (length block) 24 long, number, first, units, is) refl

pub tells_closing : (interfaces : List Interface) (time : ℕ) → time < 2 ^ 64 → slice_get interfaces 0 ≡ Some raw
    → Tells Little interfaces interfaces (closing_block time) None (Some (Closed time))
tells_closing interfaces time fits first =
    let block : List ℕ = closing_block time in
    let units = units_by time block front (little_bytes 4 24) fits (pieces time) front_size in
    record {
      order_is = order_closing time;
      whole = whole_closing time;
      holds = ap (λ r. and_then r (with_length (length block) block)) (passes interfaces block (kind_closing time))
          ∙ ap (λ (m : Option RecordMark). Ok (record { part = record { len = length block; packet = None; mark = m }; section = record { order = Little; interfaces = interfaces } }))
          (closes interfaces block time (kind_closing time) (omega (arith, size_closing time)) (number_closing time) first units (time_raw time fits));
    }
