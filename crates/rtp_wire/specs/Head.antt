-- The fixed header of an RTP packet (RFC 3550, 5.1).
use Rattle.std.specs.Prelude.{◌<◌, ◌+◌, ◌*◌, ◌^◌, ℕ, Bool, List, [], ◌∷◌, ◌++◌, if◌then◌else◌}
use Rattle.rtp_wire.specs.declared.header.RtpHead.{RtpHead}
use Rattle.rtp_wire.specs.Octets.{octets_of}

-- the fields that tell packets apart: the marker, the payload type, the sequence number, the timestamp and the source
pub record Head : Type 0 where
  pub marker : Bool
  pub pt : ℕ
  pub seq : ℕ
  pub ts : ℕ
  pub ssrc : ℕ

-- each field fits its bits
pub record FitsHeader (head : Head) : Type 0 where
  pub pt : head.pt < 128
  pub seq : head.seq < 2 ^ 16
  pub ts : head.ts < 2 ^ 32
  pub ssrc : head.ssrc < 2 ^ 32

-- a flag's bit
abbrev pub bit : Bool → ℕ
bit flag = if flag then 1 else 0

-- the twelve octets of a header that begins with this octet
abbrev pub octets_after : ℕ → Head → List ℕ
octets_after first head =
    (first ∷ (128 * bit head.marker + head.pt) ∷ [])
    ++ octets_of 2 head.seq ++ octets_of 4 head.ts ++ octets_of 4 head.ssrc

-- the twelve octets of a header with no padding, no extension and no contributing source
abbrev pub head_octets : Head → List ℕ
head_octets head = octets_after 128 head

-- the header that a value of the code represents
abbrev pub head_of : RtpHead → Head
head_of h = record { marker = h.marker; pt = h.pt; seq = h.seq; ts = h.ts; ssrc = h.ssrc }
