use Rattle.std.proofs.Common.{◌≡◌, ◌-◌, ◌^◌, ◌++◌, ℕ, List, codes, ap, ◌∙◌, arith}
use Rattle.byteorder.specs.Endian.{little_bytes}
use Rattle.pcap_file.specs.Mark.{opening_text}
use Rattle.pcap_file.specs.Blocks.{option_octets, section_body}
use Rattle.pcap_file.proofs.encode.body.section_body.Goals as goal

pub returns : goal.returns
unfolding section_body
returns c =
    let head : List ℕ = little_bytes 4 0x1a2b3c4d ++ little_bytes 2 1 ++ little_bytes 2 0 ++ little_bytes 8 (2 ^ 64 - 1) in
    let opening : List ℕ = option_octets 1 (opening_text c.args.open_at) in
    let writer : List ℕ = option_octets 4 (codes "darbexum") in
    let i4 : c.push-4.new.head.items ≡ head = grind (arith, c.push-4.ensures.items, c.push-3.ensures.items, c.push-2.ensures.items, c.push.ensures.items, c.new-head.ensures, c.to_le_bytes.ensures, c.to_le_bytes-2.ensures, c.to_le_bytes-3.ensures, c.to_le_bytes-4.ensures) in
    let i5 : c.push_opening.new.head.items ≡ head ++ opening = c.push_opening.ensures.items ∙ ap (λ l. l ++ opening) i4 in
    let i6 : c.push_option.new.head.items ≡ head ++ opening ++ writer = c.push_option.ensures.items ∙ ap (λ l. l ++ writer) i5 in
    c.push-5.ensures.items ∙ ap (λ l. l ++ c.to_le_bytes-5.result) i6 ∙ ap (λ l. head ++ opening ++ writer ++ l) c.to_le_bytes-5.ensures
