-- The last 256 arrivals as the bits of four words of 64: whether each passed a test.
use Rattle.std.specs.Prelude.{ℕ, ◌+◌, ◌%◌, ◌^◌, Bool, count_ones, nat_le, if◌then◌else◌}
use Rattle.rtp_stream.specs.declared.arrival_bits.ArrivalBits.{ArrivalBits}

abbrev pub no_bits : ArrivalBits
no_bits = record { latest = 0; second = 0; third = 0; oldest = 0 }

-- the word with one more bit as the lowest; of 64 bits the highest falls off
abbrev pub shifted : ℕ → Bool → ℕ
shifted bits b = ((bits + bits) % 2 ^ 64 + (if b then 1 else 0)) % 2 ^ 64

-- the highest bit of the word is set
abbrev pub has_top : ℕ → Bool
has_top bits = nat_le (2 ^ 63) bits

-- the bits with one more: each word takes over the highest bit of the one before it
abbrev pub bits_with : ArrivalBits → Bool → ArrivalBits
bits_with bits b = record {
  latest = shifted bits.latest b;
  second = shifted bits.second (has_top bits.latest);
  third = shifted bits.third (has_top bits.second);
  oldest = shifted bits.oldest (has_top bits.third);
}

-- at least 8 of the bits are set
abbrev pub are_often : ArrivalBits → Bool
are_often bits = nat_le 8 (count_ones bits.latest + count_ones bits.second + (count_ones bits.third + count_ones bits.oldest))
