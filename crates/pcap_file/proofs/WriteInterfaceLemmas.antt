-- The interfaces of a record are read as they were described.
use Rattle.std.proofs.Common.{◌≡◌, ◌<◌, ◌≤◌, ◌+◌, ◌-◌, ◌^◌, ℕ, List, [], ◌∷◌, ◌++◌, length, Option, Some, None, Ok, nat_lt, true, pos, codes, refl, ap, ◌∙◌, arith, append_assoc, length-append}
use Rattle.std.specs.Fmt.{decimal}
use Rattle.std.proofs.lemmas.Bool.Decides.{nat_tests}
use Rattle.std.proofs.lemmas.Fmt.{length-decimal-le}
use Rattle.byteorder.specs.Endian.{little_bytes}
use Rattle.pcap_file.specs.declared.decode.interface.Interface.{Interface}
use Rattle.pcap_file.specs.declared.decode.link.LinkType.TheVariants.{Raw}
use Rattle.pcap_file.specs.declared.decode.record_mark.RecordMark.{RecordMark}
use Rattle.pcap_file.specs.declared.decode.endian.Endian.TheVariants.{Little}
use Rattle.pcap_file.specs.Chain.{and_then}
use Rattle.pcap_file.specs.Octets.{number_at}
use Rattle.pcap_file.specs.Interface.{interface_of, interface_options, offset_of, offset_value, resolution_of, resolution_value}
use Rattle.pcap_file.specs.Mark.{found_text, mark_of, text_at}
use Rattle.pcap_file.specs.Options.{option_of}
use Rattle.pcap_file.specs.InterfaceTexts.{TextsView, texts_in}
use Rattle.pcap_file.specs.WrittenRecord.{IsPath, PathView}
use Rattle.pcap_file.specs.Section.{content_as, content_of, described_by, order_of, with_length}
use Rattle.pcap_file.specs.Blocks.{block_octets, gains_interface_block, interface_block, interface_text, option_octets, options_end, texts_block, texts_body}
use Rattle.pcap_file.proofs.OctetLemmas.{midst}
use Rattle.pcap_file.proofs.OptionLemmas.{length-option, option_found, option_none, option_passed}
use Rattle.pcap_file.proofs.WholeLemmas.{IsWhole, Tells, not_below, whole_block}

-- an interface of IP packets whose times are in nanoseconds
unfoldable pub raw : Interface
raw = record { link = Raw; limit = 0; resolution = 9; offset = pos 0 }

front : ℕ → List ℕ
front len = little_bytes 4 1 ++ little_bytes 4 len ++ little_bytes 2 101 ++ little_bytes 2 0 ++ little_bytes 4 0

front_size : (len : ℕ) → 16 ≡ length (front len)
unfolding front
front_size len = refl

-- its texts are short
pub record AreShort (t : TextsView) : Type 0 where
  pub name : length t.name ≤ 64
  pub description : length t.description ≤ 64

-- the body and the block of an interface
abbrev body_of : TextsView → List ℕ
body_of t = texts_body t.name t.description

abbrev block_of : TextsView → List ℕ
block_of t = texts_block t.name t.description

abbrev name : TextsView → List ℕ
name t = option_octets 2 t.name

abbrev resolution : List ℕ
resolution = option_octets 9 (9 ∷ [])

abbrev description : TextsView → List ℕ
description t = option_octets 3 t.description

abbrev options : TextsView → List ℕ
options t = name t ++ resolution ++ description t ++ options_end

pieces : (t : TextsView) → block_of t ≡ front (12 + length (body_of t)) ++ (options t ++ little_bytes 4 (12 + length (body_of t)))
unfolding texts_block block_octets texts_body front
pieces t = refl

size : (t : TextsView) → length (body_of t) ≡ 8 + length (options t)
unfolding texts_body
size t = omega arith

digits : (n : ℕ) → n < 2 ^ 16 → length (decimal n) ≤ 5
digits n small = length-decimal-le 5 n (omega arith) (omega (arith, small)) (omega (arith, small))

options_size : (t : TextsView) → length (options t) ≡ length (name t) + 12 + length (description t)
options_size t =
    omega (
      arith,
      length-append (name t ++ resolution ++ description t) options_end,
      length-append (name t ++ resolution) (description t),
      length-append (name t) resolution,
      length-option 9 (9 ∷ []),
    )

whole_texts : (t : TextsView) → AreShort t → IsWhole (block_of t)
unfolding texts_block
whole_texts t is =
    let sizes = length-option 2 t.name in
    let more = length-option 3 t.description in
    whole_block 1 (body_of t) (omega (arith, size t, options_size t, sizes, more))
    (omega (arith, size t, options_size t, sizes, more, is.name, is.description))

order_interface : (t : TextsView) → order_of Little (block_of t) ≡ Ok Little
unfolding order_of number_at texts_block block_octets
order_interface t = refl

kind_interface : (t : TextsView) → number_at Little 4 0 (block_of t) ≡ 1
unfolding number_at texts_block block_octets
kind_interface t = refl

link_number : (t : TextsView) → number_at Little 2 8 (block_of t) ≡ 101
unfolding number_at texts_block block_octets texts_body
link_number t = refl

limit_is : (t : TextsView) → number_at Little 4 12 (block_of t) ≡ 0
unfolding number_at texts_block block_octets texts_body
limit_is t = refl

long_interface : (t : TextsView) → 20 ≤ length (block_of t)
long_interface t =
    let len : ℕ = 12 + length (body_of t) in
    omega (arith, ap length (pieces t), front_size len, length-append (front len) (options t ++ little_bytes 4 len), length-append (options t) (little_bytes 4 len), options_size t)

-- its options
options_are : (t : TextsView) → interface_options (block_of t) ≡ options t
options_are t =
    let len : ℕ = 12 + length (body_of t) in
    midst 16 (length (block_of t) - 4) (front len) (options t) (little_bytes 4 len) (block_of t) (pieces t) (front_size len)
    (omega (arith, ap length (pieces t), front_size len, length-append (front len) (options t ++ little_bytes 4 len), length-append (options t) (little_bytes 4 len)))

in_turn : (t : TextsView) → options t ≡ name t ++ (resolution ++ (description t ++ options_end))
in_turn t =
    append_assoc (name t ++ resolution) (description t) options_end ∙ append_assoc (name t) resolution (description t ++ options_end)

turned : (t : TextsView) → interface_options (block_of t) ≡ name t ++ (resolution ++ (description t ++ options_end))
turned t = options_are t ∙ in_turn t

-- behind its name, if another option is looked for
past_name : (wanted : ℕ) (t : TextsView) → AreShort t → (2 ≡ wanted → ⊥)
    → option_of Little wanted (interface_options (block_of t)) ≡ option_of Little wanted (resolution ++ (description t ++ options_end))
past_name wanted t is differs =
    ap (option_of Little wanted) (turned t)
    ∙ option_passed wanted 2 t.name (resolution ++ (description t ++ options_end)) (omega arith) (omega arith) (omega (arith, is.name)) differs

past_resolution : (wanted : ℕ) (t : TextsView) → (9 ≡ wanted → ⊥)
    → option_of Little wanted (resolution ++ (description t ++ options_end)) ≡ option_of Little wanted (description t ++ options_end)
past_resolution wanted t differs = option_passed wanted 9 (9 ∷ []) (description t ++ options_end) (omega arith) (omega arith) (omega arith) differs

resolution_back : (t : TextsView) → AreShort t → resolution_of Little (interface_options (block_of t)) ≡ Ok 9
unfolding resolution_of
resolution_back t is =
    ap (λ r. and_then r resolution_value)
    (past_name 9 t is (λ e. absurd (omega (arith, e))) ∙ option_found 9 (9 ∷ []) (description t ++ options_end) (omega arith) (omega arith) (omega arith))

offset_back : (t : TextsView) → AreShort t → offset_of Little (interface_options (block_of t)) ≡ Ok (pos 0)
unfolding offset_of
offset_back t is =
    ap (λ r. and_then r (offset_value Little))
    (past_name 14 t is (λ e. absurd (omega (arith, e)))
    ∙ past_resolution 14 t (λ e. absurd (omega (arith, e)))
    ∙ option_passed 14 3 t.description options_end (omega arith) (omega arith) (omega (arith, is.description)) (λ e. absurd (omega (arith, e)))
    ∙ option_none 14)

-- its texts
name_back : (t : TextsView) → AreShort t → text_at Little 2 (interface_options (block_of t)) ≡ t.name
name_back t is =
    ap (λ l. found_text (option_of Little 2 l)) (turned t)
    ∙ ap found_text (option_found 2 t.name (resolution ++ (description t ++ options_end)) (omega arith) (omega arith) (omega (arith, is.name)))

description_back : (t : TextsView) → AreShort t → text_at Little 3 (interface_options (block_of t)) ≡ t.description
description_back t is =
    ap found_text
    (past_name 3 t is (λ e. absurd (omega (arith, e)))
    ∙ past_resolution 3 t (λ e. absurd (omega (arith, e)))
    ∙ option_found 3 t.description options_end (omega arith) (omega arith) (omega (arith, is.description)))

texts_back : (t : TextsView) → AreShort t → texts_in Little (block_of t) ≡ Some t
unfolding texts_in
texts_back t is =
    rw (not_below (length (block_of t)) 20 (long_interface t), kind_interface t, name_back t is, description_back t is) refl

describes : (block : List ℕ) → 20 ≤ length block → number_at Little 2 8 block ≡ 101 → number_at Little 4 12 block ≡ 0
    → resolution_of Little (interface_options block) ≡ Ok 9 → offset_of Little (interface_options block) ≡ Ok (pos 0) → interface_of Little block ≡ Ok raw
unfolding interface_of raw
describes block long link limit units offset = rw (not_below (length block) 20 long, link, limit, units, offset) refl

adds : (interfaces : List Interface) (block : List ℕ) → number_at Little 4 0 block ≡ 1 → interface_of Little block ≡ Ok raw → length interfaces < 65
    → content_of (record { order = Little; interfaces = interfaces }) block
    ≡ Ok (record { packet = None; section = record { order = Little; interfaces = interfaces ++ raw ∷ [] } })
unfolding content_as described_by
adds interfaces block kind is few =
    let space : nat_lt (length interfaces) 65 ≡ true = grind (arith, nat_tests, few) in
    rw (kind, is, space) refl

unmarked : (interfaces : List Interface) (block : List ℕ) → number_at Little 4 0 block ≡ 1 → mark_of Little interfaces block ≡ None
unmarked interfaces block kind = rw kind refl

tells_texts : (interfaces : List Interface) (t : TextsView) → AreShort t → length interfaces < 65
    → Tells Little interfaces (interfaces ++ raw ∷ []) (texts_block t.name t.description) None None
tells_texts interfaces t fits few =
    let block : List ℕ = block_of t in
    let is = describes block (long_interface t) (link_number t) (limit_is t) (resolution_back t fits) (offset_back t fits) in
    let after : List Interface = interfaces ++ raw ∷ [] in
    record {
      order_is = order_interface t;
      whole = whole_texts t fits;
      holds = ap (λ r. and_then r (with_length (length block) block)) (adds interfaces block (kind_interface t) is few)
          ∙ ap (λ (m : Option RecordMark). Ok (record { part = record { len = length block; packet = None; mark = m }; section = record { order = Little; interfaces = after } }))
          (unmarked after block (kind_interface t));
    }

-- the texts of a path's interface
abbrev path_texts : PathView → TextsView
path_texts p = record { name = interface_text p.stream p.letter; description = p.description }

short_path : (p : PathView) → IsPath p → AreShort (path_texts p)
short_path p is =
    let few = digits p.stream is.0 in
    record {
      name = omega (arith, length-append (decimal p.stream) (32 ∷ p.letter ∷ []), few);
      description = is.1;
    }

pub path_back : (p : PathView) → IsPath p → texts_in Little (interface_block p.stream p.letter p.description) ≡ Some (record { name = interface_text p.stream p.letter; description = p.description })
unfolding interface_block
path_back p is = texts_back (path_texts p) (short_path p is)

pub tells_interface : (interfaces : List Interface) (p : PathView) → IsPath p → length interfaces < 65
    → Tells Little interfaces (interfaces ++ raw ∷ []) (interface_block p.stream p.letter p.description) None None
unfolding interface_block
tells_interface interfaces p is few = tells_texts interfaces (path_texts p) (short_path p is) few

-- the texts of the interface of changes of gains
abbrev gains_texts : TextsView
gains_texts = record { name = codes "gains"; description = codes "gains" }

short_gains : AreShort gains_texts
short_gains = record { name = omega arith; description = omega arith }

pub gains_back : texts_in Little gains_interface_block ≡ Some (record { name = codes "gains"; description = codes "gains" })
unfolding gains_interface_block
gains_back = texts_back gains_texts short_gains

pub tells_gains : (interfaces : List Interface) → length interfaces < 65 → Tells Little interfaces (interfaces ++ raw ∷ []) gains_interface_block None None
unfolding gains_interface_block
tells_gains interfaces few = tells_texts interfaces gains_texts short_gains few
