-- Texts of addresses: a parser returns the address that the text spells.
use Rattle.std.proofs.Common.{◌≡◌, List, ℕ, [], ◌∷◌, length, Some, None, option_map, refl, sym, ap, ◌∙◌, subst, append-nil, lit≤, ne_eqb, arith}
use Rattle.std.specs.declared.net.ipv4_addr.Ipv4Addr.{Ipv4Addr}
use Rattle.std.specs.Net.Grammar.{IsDotted, IsIpv4Text}
use Rattle.std.specs.Net.Reader.{Read, read_ipv4, whole_value}
use Rattle.std.proofs.NetLemmas.Ipv4.{read_ipv4_sound, read_ipv4_complete}
use Rattle.studio_config.specs.Address.{of_octets, address_of}

-- a text that spells an address
pub address_of-text : (text : List ℕ) (a : Ipv4Addr) → IsIpv4Text text a → address_of text ≡ Some a
unfolding address_of
address_of-text text a is =
    let read : read_ipv4 text ≡ Some (a.octets, []) = ap read_ipv4 (sym (append-nil text)) ∙ read_ipv4_complete text a.octets [] is (lit≤ tt) in
    rw read

-- the result for a text that spells no address, by what was read of it
read-none : (text : List ℕ) (read : Read (List ℕ)) → read_ipv4 text ≡ read → ((a : Ipv4Addr) → ¬ (IsIpv4Text text a)) → option_map of_octets (whole_value read) ≡ None
read-none text None is other = refl
read-none text (Some (octets, [])) is other =
    let (front, split, dotted) = read_ipv4_sound text octets [] is in
    absurd (other (of_octets octets) (subst (λ t. IsDotted t octets) (sym (split ∙ append-nil front)) dotted))
read-none text (Some (octets, c ∷ rest)) is other = rw (ne_eqb (length (c ∷ rest)) 0 (omega arith))

-- a text that spells no address
pub address_of-none : (text : List ℕ) → ((a : Ipv4Addr) → ¬ (IsIpv4Text text a)) → address_of text ≡ None
unfolding address_of
address_of-none text other = read-none text (read_ipv4 text) refl other
