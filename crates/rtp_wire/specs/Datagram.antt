-- The RTP packet in a datagram (RFC 3550, 5.1 and 5.3.1).
use Rattle.std.specs.Prelude.{◌≡◌, ◌<◌, ◌+◌, ◌-◌, ◌*◌, ◌/◌, ◌%◌, ◌^◌, ℕ, Bool, List, [], ◌∷◌, ◌++◌, length, slice_index, slice_range, MatchBool, Option, Some, None, nat_lt, nat_le, ◌==◌, not, ◌&&◌, ◌||◌, if◌then◌else◌}
use Rattle.rtp_wire.specs.declared.datagram.RtpView.{RtpView}
use Rattle.rtp_wire.specs.declared.fault.WireFault.{WireFault}
use Rattle.rtp_wire.specs.declared.fault.WireFault.TheVariants.{Short, Version, CsrcCut, ExtensionCut, Padding}
use Rattle.rtp_wire.specs.Octets.{big_endian, octets_of}
use Rattle.rtp_wire.specs.Head.{Head, FitsHeader, bit, octets_after}

-- a header extension: two octets that a profile defines, the number of words in two octets, the words of four octets
pub record IsExtension (octets : List ℕ) : Type 0 where
  pub profile : List ℕ
  pub count : ℕ
  pub words : List ℕ
  pub two : length profile ≡ 2
  pub count_fits : count < 2 ^ 16
  pub four_each : length words ≡ 4 * count
  pub layout : octets ≡ profile ++ octets_of 2 count ++ words

-- padding: from 1 to 255 octets; the last one is their number
pub record IsPadding (octets : List ℕ) : Type 0 where
  pub before : List ℕ
  pub fits : length octets < 256
  pub layout : octets ≡ before ++ length octets ∷ []

-- the octets are an RTP packet with this header and payload: the version is 2, and each part that a flag or the count
-- announces is there
pub record IsDatagram (octets : List ℕ) (head : Head) (payload : List ℕ) : Type 0 where
  pub padded : Bool
  pub extended : Bool
  pub source_count : ℕ
  pub sources : List ℕ
  pub extension : List ℕ
  pub padding : List ℕ
  pub head_fits : FitsHeader head
  pub count_fits : source_count < 16
  pub four_each : length sources ≡ 4 * source_count
  pub is_extension : MatchBool extended (IsExtension extension) (extension ≡ [])
  pub is_padding : MatchBool padded (IsPadding padding) (padding ≡ [])
  pub layout : octets ≡
      octets_after (128 + 32 * bit padded + 16 * bit extended + source_count) head
      ++ sources ++ extension ++ payload ++ padding

-- the version, the padding flag and the extension flag in the first octet
abbrev pub version_of : List ℕ → ℕ
version_of octets = slice_index octets 0 / 64

abbrev pub is_padded : List ℕ → Bool
is_padded octets = slice_index octets 0 / 32 % 2 == 1

abbrev pub is_extended : List ℕ → Bool
is_extended octets = slice_index octets 0 / 16 % 2 == 1

-- the place where the list of contributing sources ends, 4 octets each
abbrev pub sources_end : List ℕ → ℕ
sources_end octets = 12 + 4 * (slice_index octets 0 % 16)

-- the number of words in the extension that begins at a place
abbrev pub word_count : List ℕ → ℕ → ℕ
word_count octets place = big_endian (slice_range octets (place + 2) (place + 4))

-- the place where the payload begins, if nothing is cut
abbrev pub payload_start : List ℕ → ℕ
payload_start octets =
    if is_extended octets
    then sources_end octets + 4 + 4 * word_count octets (sources_end octets)
    else sources_end octets

-- the number of octets of padding, if the padding flag is set; 0 otherwise
abbrev pub padding_count : List ℕ → ℕ
padding_count octets = if is_padded octets then slice_index octets (length octets - 1) else 0

-- the padding flag is set, and nothing is left after the extension, or the last octet is 0 or more than what is left
abbrev pub has_bad_padding : List ℕ → Bool
has_bad_padding octets =
    is_padded octets
    && (nat_le (length octets) (payload_start octets)
    || padding_count octets == 0
    || nat_lt (length octets) (payload_start octets + padding_count octets))

-- the first thing that is wrong with octets
abbrev pub wire_fault_of : List ℕ → Option WireFault
wire_fault_of octets =
    if nat_lt (length octets) 12 then Some Short
    else (if not (version_of octets == 2) then Some Version
    else (if nat_lt (length octets) (sources_end octets) then Some CsrcCut
    else (if nat_lt (length octets) (payload_start octets) then Some ExtensionCut
    else (if has_bad_padding octets then Some Padding else None))))

-- the header's fields, by their places
abbrev pub head_at : List ℕ → Head
head_at octets = record {
  marker = nat_le 128 (slice_index octets 1);
  pt = slice_index octets 1 % 128;
  seq = big_endian (slice_range octets 2 4);
  ts = big_endian (slice_range octets 4 8);
  ssrc = big_endian (slice_range octets 8 12);
}

-- the payload, by its place
abbrev pub payload_at : List ℕ → List ℕ
payload_at octets = slice_range octets (payload_start octets) (length octets - padding_count octets)

-- the header in a view of the code
abbrev pub view_head : RtpView → Head
view_head v = record { marker = v.marker; pt = v.pt; seq = v.seq; ts = v.ts; ssrc = v.ssrc }
