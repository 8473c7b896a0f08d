-- The result of putting a packet at its number, by the packet that this number has.
use Rattle.std.specs.Prelude.{Bool, true, false, Option, Some, None, bytes_eq, if◌then◌else◌}
use Rattle.rtp_stream.specs.declared.packet.Packet.{Packet}
use Rattle.rtp_stream.specs.declared.fate.Put.{Put}
use Rattle.rtp_stream.specs.declared.fate.Put.TheVariants.{Taken, Double, Unlike}

abbrev pub put_answer : Option Packet → Packet → Put
put_answer None packet = Taken
put_answer (Some first) packet = if bytes_eq first.payload.items packet.payload.items then Double else Unlike

abbrev pub is_taken : Put → Bool
is_taken Taken = true
is_taken Double = false
is_taken Unlike = false
