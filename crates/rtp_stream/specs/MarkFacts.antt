-- The facts of every mark.
use Rattle.std.specs.Prelude.{◌≡◌, ℕ, ◌*◌, ◌^◌, ◌<◌, ◌≤◌, ℤ, pos, neg_ℤ, ◌≤ℤ◌, length}
use Rattle.rtp_wire.specs.Sample.{octets_per_sample}
use Rattle.rtp_stream.specs.declared.mark.PacketFormat.{PacketFormat}
use Rattle.rtp_stream.specs.declared.mark.Body.{Body}
use Rattle.rtp_stream.specs.declared.mark.Body.TheVariants.{Got, Lost}
use Rattle.rtp_stream.specs.declared.mark.MarkKind.{MarkKind}
use Rattle.rtp_stream.specs.declared.mark.MarkKind.TheVariants.{Slot, Quiet, End}

-- what contracts see of a mark
pub record MarkView : Type 0 where
  pub format : PacketFormat
  pub kind : MarkKind

-- the octets of a packet's samples
abbrev pub payload_length : PacketFormat → ℕ
payload_length format = format.frames * format.channels * octets_per_sample format.enc

-- a time so small that the sum of a few of them fits 64 bits
abbrev pub IsTime : ℤ → Type 0
IsTime t = (neg_ℤ (pos (2 ^ 61)) ≤ℤ t) × (t ≤ℤ pos (2 ^ 61))

abbrev pub HasLength : ℕ → Body → Type 0
HasLength len (Got payload) = length payload.items ≡ len
HasLength len Lost = Unit {0}

-- a mark whose payload has the format's length, and whose times and numbers are small
abbrev pub IsMark : PacketFormat → MarkKind → Type 0
IsMark format (Slot epoch number media body) = (epoch < 2 ^ 62) × (number ≤ 2 ^ 61) × IsTime media × HasLength (payload_length format) body
IsMark format (Quiet until) = IsTime until
IsMark format End = Unit {0}
