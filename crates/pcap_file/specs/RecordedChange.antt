-- A change of gains that a run took, as the payload of a packet of its record: numbers most significant octet first.
use Rattle.std.specs.Prelude.{◌<◌, ◌-◌, ◌%◌, ◌/◌, ◌^◌, ℕ, zero, suc, ℤ, List, [], ◌∷◌, ◌++◌, length, drop, Option, Some, None, FitsSigned, nat_lt, not, ◌==◌, ◌||◌, if◌then◌else◌}
use Rattle.std.specs.List.{All, flat_map}
use Rattle.std.specs.Int.{w32, w64, cast_signed, cast_unsigned}
use Rattle.byteorder.specs.Endian.{big_bytes}
use Rattle.pcap_file.specs.declared.decode.endian.Endian.TheVariants.{Big}
use Rattle.pcap_file.specs.Octets.{number_at}
use Rattle.pcap_file.specs.declared.decode.recorded_change.ChangeHead.{ChangeHead}
use Rattle.pcap_file.specs.declared.encode.recorded_change.RecordedChange.{RecordedChange}

-- the time from which the gains are in force, counted from the opening, the number of the next block at the call, and
-- the gains, row by row
pub record ChangeView : Type 0 where
  pub at : ℤ
  pub next_block : ℕ
  pub gains : List ℤ

-- the time fits 64 bits, as does the number of the block, and each gain fits 32
pub record IsChange (v : ChangeView) : Type 0 where
  pub at : FitsSigned w64 v.at
  pub next_block : v.next_block < 2 ^ 64
  pub gains : All (FitsSigned w32) v.gains

-- four octets of a gain, in two's complement
abbrev pub gain_octets : ℤ → List ℕ
gain_octets gain = big_bytes 4 (cast_unsigned w32 gain)

unfoldable pub change_octets : ChangeView → List ℕ
change_octets v = big_bytes 8 (cast_unsigned w64 v.at) ++ big_bytes 8 v.next_block ++ flat_map gain_octets v.gains

-- the first `count` gains in octets, four octets each
abbrev pub gains_in : ℕ → List ℕ → List ℤ
gains_in zero octets = []
gains_in (suc count) octets = cast_signed w32 (number_at Big 4 0 octets) ∷ gains_in count (drop 4 octets)

-- the change in octets, if they are as many as two numbers and some gains have
unfoldable pub change_of : List ℕ → Option ChangeView
change_of octets =
    if nat_lt (length octets) 16 || not (length octets % 4 == 0) then None
    else Some (record {
      at = cast_signed w64 (number_at Big 8 0 octets);
      next_block = number_at Big 8 8 octets;
      gains = gains_in ((length octets - 16) / 4) (drop 16 octets);
    })

-- the views of the values in the code
abbrev pub change_view : RecordedChange → ChangeView
change_view change = record { at = change.at; next_block = change.next_block; gains = change.gains.now }

abbrev pub head_with : ChangeHead → List ℤ → ChangeView
head_with head gains = record { at = head.at; next_block = head.next_block; gains = gains }
