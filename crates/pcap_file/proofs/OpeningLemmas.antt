-- The section header of a record is read as one.
use Rattle.std.proofs.Common.{◌≡◌, ◌<◌, ◌≤◌, ◌+◌, ◌-◌, ◌^◌, ℕ, List, [], ◌++◌, length, Option, Some, None, Ok, codes, refl, sym, ap, ◌∙◌, arith, append_assoc, length-append}
use Rattle.std.specs.Fmt.{decimal}
use Rattle.std.proofs.lemmas.Fmt.{decimal_injective, length-decimal-le}
use Rattle.byteorder.specs.Endian.{little_bytes}
use Rattle.pcap_file.specs.declared.decode.interface.Interface.{Interface}
use Rattle.pcap_file.specs.declared.decode.record_mark.RecordMark.{RecordMark}
use Rattle.pcap_file.specs.declared.decode.record_mark.RecordMark.TheVariants.{Opened}
use Rattle.pcap_file.specs.declared.decode.endian.Endian.{Endian}
use Rattle.pcap_file.specs.declared.decode.endian.Endian.TheVariants.{Little}
use Rattle.pcap_file.specs.Chain.{and_then}
use Rattle.pcap_file.specs.Octets.{number_at}
use Rattle.pcap_file.specs.Mark.{found_text, mark_of, number_in, opened_by, opening_in, opening_text, section_options, text_at}
use Rattle.pcap_file.specs.Section.{begun_by, content_as, content_of, order_of, section_begun, section_fault, with_length}
use Rattle.pcap_file.proofs.DecimalLemmas.{number_in-is}
use Rattle.pcap_file.specs.Blocks.{block_octets, option_octets, options_end, section_block, section_body}
use Rattle.pcap_file.proofs.OctetLemmas.{midst}
use Rattle.pcap_file.proofs.OptionLemmas.{length-option, option_found, option_passed}
use Rattle.pcap_file.proofs.WholeLemmas.{IsWhole, Tells, not_below, whole_block}

-- the pieces of the header
front : ℕ → List ℕ
front len = little_bytes 4 0x0a0d0d0a ++ little_bytes 4 len ++ little_bytes 4 0x1a2b3c4d ++ little_bytes 2 1 ++ little_bytes 2 0 ++ little_bytes 8 (2 ^ 64 - 1)

front_size : (len : ℕ) → 24 ≡ length (front len)
unfolding front
front_size len = refl

abbrev comment : ℕ → List ℕ
comment n = option_octets 1 (opening_text n)

abbrev writer : List ℕ
writer = option_octets 4 (codes "darbexum")

abbrev options : ℕ → List ℕ
options n = comment n ++ writer ++ options_end

pieces : (n : ℕ) → section_block n ≡ front (12 + length (section_body n)) ++ (options n ++ little_bytes 4 (12 + length (section_body n)))
unfolding section_block block_octets section_body front
pieces n = refl

size : (n : ℕ) → length (section_body n) ≡ 16 + length (options n)
unfolding section_body
size n = omega arith

digits : (n : ℕ) → n < 2 ^ 63 → length (decimal n) ≤ 20
digits n small = length-decimal-le 20 n (omega arith) (omega (arith, small)) (omega (arith, small))

text_size : (n : ℕ) → length (opening_text n) ≡ 8 + length (decimal n)
text_size n = omega arith

options_size : (n : ℕ) → length (options n) ≡ length (comment n) + 16
options_size n = omega (arith, length-append (comment n ++ writer) options_end, length-append (comment n) writer, length-option 4 (codes "darbexum"))

pub whole_opening : (n : ℕ) → n < 2 ^ 63 → IsWhole (section_block n)
unfolding section_block
whole_opening n small =
    let sizes = length-option 1 (opening_text n) in
    whole_block 0x0a0d0d0a (section_body n) (omega (arith, size n, options_size n, sizes)) (omega (arith, size n, options_size n, sizes, text_size n, digits n small))

order_opening : (order : Endian) (n : ℕ) → order_of order (section_block n) ≡ Ok Little
unfolding order_of number_at section_block block_octets section_body
order_opening order n = refl

kind_opening : (n : ℕ) → number_at Little 4 0 (section_block n) ≡ 0x0a0d0d0a
unfolding number_at section_block block_octets section_body
kind_opening n = refl

major : (n : ℕ) → number_at Little 2 12 (section_block n) ≡ 1
unfolding number_at section_block block_octets section_body
major n = refl

minor : (n : ℕ) → number_at Little 2 14 (section_block n) ≡ 0
unfolding number_at section_block block_octets section_body
minor n = refl

long_opening : (n : ℕ) → 28 ≤ length (section_block n)
long_opening n = omega (arith, ap length (pieces n), front_size (12 + length (section_body n)), length-append (front (12 + length (section_body n))) (options n ++ little_bytes 4 (12 + length (section_body n))), length-append (options n) (little_bytes 4 (12 + length (section_body n))), options_size n)

-- the section header's version is one that is read
no_fault : (block : List ℕ) → 28 ≤ length block → number_at Little 2 12 block ≡ 1 → number_at Little 2 14 block ≡ 0 → section_fault Little block ≡ None
unfolding section_fault
no_fault block long one none = rw (not_below (length block) 28 long, one, none) refl

begins : (interfaces : List Interface) (block : List ℕ) → number_at Little 4 0 block ≡ 0x0a0d0d0a → section_fault Little block ≡ None
    → content_of (record { order = Little; interfaces = interfaces }) block ≡ Ok (record { packet = None; section = record { order = Little; interfaces = [] } })
unfolding content_as begun_by
begins interfaces block kind fault = rw kind (ap (section_begun (record { order = Little; interfaces = interfaces })) fault)

-- its options
options_are : (n : ℕ) → section_options (section_block n) ≡ options n
options_are n =
    let len : ℕ = 12 + length (section_body n) in
    midst 24 (length (section_block n) - 4) (front len) (options n) (little_bytes 4 len) (section_block n) (pieces n) (front_size len)
    (omega (arith, ap length (pieces n), front_size len, length-append (front len) (options n ++ little_bytes 4 len), length-append (options n) (little_bytes 4 len)))

in_turn : (n : ℕ) → options n ≡ comment n ++ (writer ++ options_end)
in_turn n = append_assoc (comment n) writer options_end

writer_is : (n : ℕ) → n < 2 ^ 63 → text_at Little 4 (section_options (section_block n)) ≡ codes "darbexum"
writer_is n small =
    ap (λ l. text_at Little 4 l) (options_are n ∙ in_turn n)
    ∙ ap found_text (option_passed 4 1 (opening_text n) (writer ++ options_end) (omega arith) (omega arith) (omega (arith, text_size n, digits n small)) (λ e. absurd (omega (arith, e)))
    ∙ option_found 4 (codes "darbexum") options_end (omega arith) (omega arith) (omega arith))

comment_is : (n : ℕ) → n < 2 ^ 63 → text_at Little 1 (section_options (section_block n)) ≡ opening_text n
comment_is n small =
    ap (λ l. text_at Little 1 l) (options_are n ∙ in_turn n)
    ∙ ap found_text (option_found 1 (opening_text n) (writer ++ options_end) (omega arith) (omega arith) (omega (arith, text_size n, digits n small)))

number_back : (n : ℕ) → n < 2 ^ 63 → number_in (decimal n) ≡ Some n
number_back n small =
    sym (number_in-is (decimal n) (Some n) refl small (λ m below same. ap (λ k. Some k) (decimal_injective n m (omega (arith, small)) (omega (arith, below)) same)))

opening_back : (n : ℕ) → n < 2 ^ 63 → opening_in (opening_text n) ≡ Some n
opening_back n small = number_back n small

opened : (n : ℕ) (block : List ℕ) → 28 ≤ length block → text_at Little 4 (section_options block) ≡ codes "darbexum"
    → text_at Little 1 (section_options block) ≡ opening_text n → opening_in (opening_text n) ≡ Some n → opened_by Little block ≡ Some (Opened n)
unfolding opened_by
opened n block long writer says back = rw (not_below (length block) 28 long, writer, says, back) refl

mark_opening : (n : ℕ) → n < 2 ^ 63 → mark_of Little [] (section_block n) ≡ Some (Opened n)
mark_opening n small =
    rw (kind_opening n) (opened n (section_block n) (long_opening n) (writer_is n small) (comment_is n small) (opening_back n small))

pub tells_opening : (order : Endian) (interfaces : List Interface) (n : ℕ) → n < 2 ^ 63 → Tells order interfaces [] (section_block n) None (Some (Opened n))
tells_opening order interfaces n small =
    let block : List ℕ = section_block n in
    let fault = no_fault block (long_opening n) (major n) (minor n) in
    record {
      order_is = order_opening order n;
      whole = whole_opening n small;
      holds = ap (λ r. and_then r (with_length (length block) block)) (begins interfaces block (kind_opening n) fault)
          ∙ ap (λ (m : Option RecordMark). Ok (record { part = record { len = length block; packet = None; mark = m }; section = record { order = Little; interfaces = [] } })) (mark_opening n small);
    }
