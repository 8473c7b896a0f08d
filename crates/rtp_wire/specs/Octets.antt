-- Numbers as octets in network byte order, most significant first (RFC 3550, 4), and as two's complement.
use Rattle.std.specs.Prelude.{◌<◌, ◌+◌, ◌-◌, ◌*◌, ◌/◌, ◌%◌, ◌^◌, ℕ, zero, suc, List, [], ◌∷◌, length, slice_index, ℤ, pos, negsuc, ◌-ℤ◌, nat_lt, if◌then◌else◌}

-- the number that octets spell
abbrev pub big_endian : List ℕ → ℕ
big_endian [] = 0
big_endian (octet ∷ octets) = octet * 256 ^ length octets + big_endian octets

-- the lowest `count` octets of a number
abbrev pub octets_of : ℕ → ℕ → List ℕ
octets_of zero n = []
octets_of (suc count) n = (n / 256 ^ count % 256) ∷ octets_of count n

-- each number of a list is less than 256
abbrev pub AreOctets : List ℕ → Type 0
AreOctets octets = (i : ℕ) → slice_index octets i < 256

-- the signed number that so many bits spell
abbrev pub twos_complement : ℕ → ℕ → ℤ
twos_complement bits n = if nat_lt n (2 ^ (bits - 1)) then pos n else pos n -ℤ pos (2 ^ bits)

-- the bits that spell a signed number, as an unsigned one
abbrev pub twos_complement_of : ℕ → ℤ → ℕ
twos_complement_of bits (pos n) = n
twos_complement_of bits (negsuc n) = 2 ^ bits - suc n
