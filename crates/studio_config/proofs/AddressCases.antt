-- Worked cases of the texts of addresses, computed.
use Rattle.std.specs.Prelude.{◌≡◌, [], ◌∷◌, codes, Some, None, refl}
use Rattle.std.specs.Net.Reader.{read_ipv4, read_octet, read_number}
use Rattle.studio_config.specs.Address.{address_of}

a_group : address_of (codes "239.71.1.205") ≡ Some (record { octets = 239 ∷ 71 ∷ 1 ∷ 205 ∷ [] })
unfolding address_of read_ipv4 read_octet read_number
a_group = refl

too_great : address_of (codes "10.0.0.256") ≡ None
unfolding address_of read_ipv4 read_octet read_number
too_great = refl

a_leading_zero : address_of (codes "10.0.0.01") ≡ None
unfolding address_of read_ipv4 read_octet read_number
a_leading_zero = refl

three_numbers : address_of (codes "10.0.1") ≡ None
unfolding address_of read_ipv4 read_octet read_number
three_numbers = refl

five_numbers : address_of (codes "10.0.0.1.1") ≡ None
unfolding address_of read_ipv4 read_octet read_number
five_numbers = refl

a_space : address_of (codes " 10.0.0.1") ≡ None
unfolding address_of read_ipv4 read_octet read_number
a_space = refl
