-- An IPv4 address as text: four decimal numbers below 256 with dots between them, none with a leading zero.
use Rattle.std.specs.Prelude.{ℕ, List, Option, option_map}
use Rattle.std.specs.declared.net.ipv4_addr.Ipv4Addr.{Ipv4Addr}
use Rattle.std.specs.Net.Reader.{read_ipv4, whole_value}

-- the address of four octets
abbrev pub of_octets : List ℕ → Ipv4Addr
of_octets octets = record { octets = octets }

-- the address that a text spells, if the whole text spells one
unfoldable pub address_of : List ℕ → Option Ipv4Addr
address_of text = option_map of_octets (whole_value (read_ipv4 text))
