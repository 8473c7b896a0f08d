-- The reception of a datagram by a stream.
use Rattle.std.specs.Prelude.{ℕ, ◌≤◌, Bool, true, false, List, length, Option, Some, None}
use Rattle.rtp_wire.specs.Datagram.{wire_fault_of, head_at, payload_at}
use Rattle.rtp_wire.specs.declared.fault.WireFault.{WireFault}
use Rattle.rtp_stream.specs.declared.packet.Packet.{Packet}
use Rattle.rtp_stream.specs.declared.reception.Reception.{Reception}
use Rattle.rtp_stream.specs.declared.reception.Reception.TheVariants.{Sent, Bad, WrongType, WrongLength}
use Rattle.rtp_stream.specs.declared.reception.ReceptionRef.{ReceptionRef}
use Rattle.rtp_stream.specs.declared.reception.ReceptionRef.TheVariants.{Sent as LentSent, Bad as LentBad, WrongType as LentType, WrongLength as LentLength}
use Rattle.rtp_stream.specs.declared.stream_spec.AdmitFault.{AdmitFault}
use Rattle.rtp_stream.specs.declared.stream_spec.AdmitFault.TheVariants.{WrongType as TypeFault, WrongLength as LengthFault}
use Rattle.rtp_stream.specs.declared.stream_spec.Stream.{Stream}
use Rattle.rtp_stream.specs.PacketRef.{packet_of}
use Rattle.rtp_stream.specs.StreamSpec.{Fits, admit_fault_of}

-- the packet that is read from octets, by the places of its fields
abbrev pub packet_at : List ℕ → Packet
packet_at octets = record { seq = (head_at octets).seq; ts = (head_at octets).ts; ssrc = (head_at octets).ssrc; payload = record { items = payload_at octets } }

abbrev pub reception_by : List ℕ → Option WireFault → Option AdmitFault → Reception
reception_by octets (Some fault) admitted = Bad fault
reception_by octets None (Some TypeFault) = WrongType
reception_by octets None (Some LengthFault) = WrongLength
reception_by octets None None = Sent (packet_at octets)

-- the reception of a datagram by a stream: its first fault, or else its packet
abbrev pub reception_of : Stream → List ℕ → Reception
reception_of stream octets = reception_by octets (wire_fault_of octets) (admit_fault_of stream (head_at octets).pt (length (payload_at octets)))

-- the reception with a copy of the borrowed packet
abbrev pub reception_from : ReceptionRef → Reception
reception_from (LentSent packet) = Sent (packet_of packet)
reception_from (LentBad fault) = Bad fault
reception_from LentType = WrongType
reception_from LentLength = WrongLength

-- a payload has space for the borrowed octets
abbrev pub IsShortReception : ReceptionRef → Type 0
IsShortReception (LentSent packet) = length packet.payload.now ≤ 1440
IsShortReception (LentBad fault) = Unit {0}
IsShortReception LentType = Unit {0}
IsShortReception LentLength = Unit {0}

-- a packet that was received has the length that the stream asks for
abbrev pub FitsReception : Stream → Reception → Type 0
FitsReception stream (Sent packet) = Fits stream packet
FitsReception stream (Bad fault) = Unit {0}
FitsReception stream WrongType = Unit {0}
FitsReception stream WrongLength = Unit {0}

-- tests for each kind of reception
abbrev pub is_any : Reception → Bool
is_any reception = true

abbrev pub is_sent : Reception → Bool
is_sent (Sent packet) = true
is_sent (Bad fault) = false
is_sent WrongType = false
is_sent WrongLength = false

abbrev pub is_bad : Reception → Bool
is_bad (Sent packet) = false
is_bad (Bad fault) = true
is_bad WrongType = false
is_bad WrongLength = false

abbrev pub is_wrong_type : Reception → Bool
is_wrong_type (Sent packet) = false
is_wrong_type (Bad fault) = false
is_wrong_type WrongType = true
is_wrong_type WrongLength = false

abbrev pub is_wrong_length : Reception → Bool
is_wrong_length (Sent packet) = false
is_wrong_length (Bad fault) = false
is_wrong_length WrongType = false
is_wrong_length WrongLength = true
