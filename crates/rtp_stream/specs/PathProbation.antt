-- The record that a merge keeps of a path's probation: how many packets were last in sequence, up to eight, and what
-- the next packet has to be.
use Rattle.std.specs.Prelude.{ℕ, zero, suc, ◌+◌, ◌%◌, ◌^◌, Bool, true, false, ◌&&◌, nat_eq, nat_le, nat_lt, List, [], ◌∷◌, if◌then◌else◌}
use Rattle.rtp_stream.specs.declared.stream_spec.Stream.{Stream}
use Rattle.rtp_stream.specs.Anchor.{is_source_wanted}
use Rattle.rtp_stream.specs.declared.probation.Probation.{Probation}
use Rattle.rtp_stream.specs.declared.packet.Packet.{Packet}

abbrev pub no_probation : Probation
no_probation = record { count = 0; source = 0; seq = 0; ts = 0 }

-- the packet continues the sequence
abbrev pub is_expected : Probation → Packet → Bool
is_expected p packet = nat_lt 0 p.count && (nat_eq packet.ssrc p.source && (nat_eq packet.seq p.seq && nat_eq packet.ts p.ts))

-- the record after one more packet, with whether the packet is off
abbrev pub probation_after : Stream → Probation → Bool × Packet → Probation
probation_after stream p (false, packet) = no_probation
probation_after stream p (true, packet) = record {
  count = if is_expected p packet then (if nat_lt p.count 8 then p.count + 1 else 8) else 1;
  source = packet.ssrc;
  seq = (packet.seq + 1) % 2 ^ 16;
  ts = (packet.ts + stream.frames) % 2 ^ 32;
}

abbrev pub probation_from : Stream → Probation → List (Bool × Packet) → Probation
probation_from stream p [] = p
probation_from stream p (one ∷ heard) = probation_from stream (probation_after stream p one) heard

-- the record after all packets that count on a path
abbrev pub probation_of : Stream → List (Bool × Packet) → Probation
probation_of stream heard = probation_from stream no_probation heard

-- the record of a path after an arrival, with whether the packet is off; packets of a source that the stream
-- doesn't ask for change nothing
abbrev pub probation_heard : Stream → Probation → Bool → Packet → Probation
probation_heard stream p off packet = if is_source_wanted stream.ssrc packet.ssrc then probation_after stream p (off, packet) else p

-- the record of a path, by its number
abbrev pub probation_at : List Probation → ℕ → Probation
probation_at [] path = no_probation
probation_at (p ∷ probations) zero = p
probation_at (p ∷ probations) (suc path) = probation_at probations path

abbrev pub is_complete : Probation → Bool
is_complete p = nat_le 8 p.count
