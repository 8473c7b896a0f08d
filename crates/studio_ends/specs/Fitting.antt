-- The packets that have a stream's length.
use Rattle.std.specs.Prelude.{nat_eq, List, [], ◌∷◌, length, if◌then◌else◌}
use Rattle.rtp_stream.specs.declared.stream_spec.Stream.{Stream}
use Rattle.rtp_stream.specs.StreamSpecFacts.{format_of}
use Rattle.rtp_stream.specs.MarkFacts.{payload_length}
use Rattle.rtp_stream.specs.declared.packet.Packet.{Packet}

-- those of the packets whose payload has the stream's length
abbrev pub fitting : Stream → List Packet → List Packet
fitting stream [] = []
fitting stream (packet ∷ packets) =
    if nat_eq (length packet.payload.items) (payload_length (format_of stream)) then packet ∷ fitting stream packets else fitting stream packets
