-- Numbers of several octets, in either order.
use Rattle.std.specs.Prelude.{ℕ, List, drop}
use Rattle.byteorder.specs.Endian.{big_number, little_number}
use Rattle.pcap_file.specs.declared.decode.endian.Endian.{Endian}
use Rattle.pcap_file.specs.declared.decode.endian.Endian.TheVariants.{Big, Little}

-- the number of `count` octets from a place on
unfoldable pub number_at : Endian → ℕ → ℕ → List ℕ → ℕ
number_at Big count place octets = big_number count (drop place octets)
number_at Little count place octets = little_number count (drop place octets)
