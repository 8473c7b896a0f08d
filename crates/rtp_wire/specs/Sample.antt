-- Linear PCM samples in a payload (RFC 3551, L16; RFC 3190, L24).
use Rattle.std.specs.Prelude.{ℕ, ◌*◌, ◌/◌, ◌^◌, ◌<◌, List, codes, length, take, drop, map, ℤ, pos, negsuc, ◌-ℤ◌, ◌*ℤ◌, ◌≤ℤ◌, ◌<ℤ◌}
use Rattle.std.specs.List.{range_with_len, flat_map}
use Rattle.rtp_wire.specs.declared.encoding.Enc.{Enc}
use Rattle.rtp_wire.specs.declared.encoding.Enc.TheVariants.{L16, L24}
use Rattle.rtp_wire.specs.Octets.{big_endian, octets_of, twos_complement, twos_complement_of}

-- how many octets a sample takes
abbrev pub octets_per_sample : Enc → ℕ
octets_per_sample L16 = 2
octets_per_sample L24 = 3

-- the name of an encoding, as RFC 3551 and RFC 3190 register it
abbrev pub encoding_name : Enc → List ℕ
encoding_name L16 = codes "L16"
encoding_name L24 = codes "L24"

-- the least number that is too great for the encoding
abbrev pub sample_limit : Enc → ℕ
sample_limit L16 = 2 ^ 15
sample_limit L24 = 2 ^ 23

-- the number has a sample in the encoding
pub record FitsEncoding (enc : Enc) (v : ℤ) : Type 0 where
  pub low : (pos 0 -ℤ pos (sample_limit enc)) ≤ℤ v
  pub high : v <ℤ pos (sample_limit enc)

-- a number of 24 bits
abbrev pub Is24Bits : ℤ → Type 0
Is24Bits (pos n) = n < 2 ^ 23
Is24Bits (negsuc n) = n < 2 ^ 23

-- the value of a sample's octets, on the scale of 24 bits
abbrev pub sample_value : Enc → List ℕ → ℤ
sample_value L16 octets = twos_complement 16 (big_endian octets) *ℤ pos 256
sample_value L24 octets = twos_complement 24 (big_endian octets)

-- the octets of a number, on the encoding's own scale
abbrev pub sample_octets : Enc → ℤ → List ℕ
sample_octets L16 v = octets_of 2 (twos_complement_of 16 v)
sample_octets L24 v = octets_of 3 (twos_complement_of 24 v)

-- the sample at an index of a payload, in which samples follow each other without gaps
abbrev pub sample_at : Enc → List ℕ → ℕ → ℤ
sample_at enc octets index =
    sample_value enc (take (octets_per_sample enc) (drop (octets_per_sample enc * index) octets))

-- the number of whole samples in a payload
abbrev pub sample_count : Enc → List ℕ → ℕ
sample_count enc octets = length octets / octets_per_sample enc

-- all whole samples of a payload, in order
abbrev pub samples_of : Enc → List ℕ → List ℤ
samples_of enc octets = map (sample_at enc octets) (range_with_len 0 (sample_count enc octets))

-- the octets of samples, one sample after the other
abbrev pub block_octets : Enc → List ℤ → List ℕ
block_octets enc samples = flat_map (sample_octets enc) samples
