-- The packets that a stream takes.
use Rattle.std.specs.Prelude.{◌≡◌, ℕ, not, nat_eq, Option, Some, None, if◌then◌else◌, length}
use Rattle.rtp_stream.specs.declared.packet.Packet.{Packet}
use Rattle.rtp_stream.specs.declared.stream_spec.AdmitFault.{AdmitFault}
use Rattle.rtp_stream.specs.declared.stream_spec.AdmitFault.TheVariants.{WrongType, WrongLength}
use Rattle.rtp_stream.specs.MarkFacts.{payload_length}
use Rattle.rtp_stream.specs.declared.stream_spec.Stream.{Stream}
use Rattle.rtp_stream.specs.StreamSpecFacts.{format_of}

-- the payload has the stream's length
abbrev pub Fits : Stream → Packet → Type 0
Fits stream packet = length packet.payload.items ≡ payload_length (format_of stream)

-- the first fault of an RTP packet of this payload type and length
abbrev pub admit_fault_of : Stream → ℕ → ℕ → Option AdmitFault
admit_fault_of stream pt len =
    if not (nat_eq pt stream.pt) then Some WrongType
    else if not (nat_eq len (payload_length (format_of stream))) then Some WrongLength
    else None
