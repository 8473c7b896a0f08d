-- Probation of a source that may have restarted (RFC 3550, A.1, MIN_SEQUENTIAL).
use Rattle.std.specs.Prelude.{ℕ, suc, ◌+◌, ◌-◌, ◌%◌, ◌^◌, Bool, true, not, ◌&&◌, ◌||◌, nat_eq, nat_le, List, [], ◌∷◌, length, take, drop, ℤ, if◌then◌else◌}
use Rattle.rtp_stream.specs.declared.stream_spec.Stream.{Stream}
use Rattle.rtp_stream.specs.declared.anchor.Anchor.{Anchor}
use Rattle.rtp_stream.specs.declared.packet.Packet.{Packet}
use Rattle.rtp_stream.specs.declared.event.Event.{Event}
use Rattle.rtp_stream.specs.declared.event.Event.TheVariants.{Arrive, Tick, Close}
use Rattle.rtp_stream.specs.History.{time_of, is_counting, at_places}
use Rattle.rtp_stream.specs.Anchor.{is_source_wanted, next_number}
use Rattle.rtp_stream.specs.Grid.{extended_number, is_on_grid}

-- the number of packets in sequence that completes a probation
abbrev pub min_sequential : ℕ
min_sequential = 8

-- the packet is of another source than the anchor's, or its timestamp is off the anchor's grid
abbrev pub is_off : Stream → Anchor → ℕ → Packet → Bool
is_off stream anchor next packet = not (nat_eq packet.ssrc anchor.source) || not (is_on_grid stream anchor (extended_number packet next) packet.ts)

-- one packet follows another: the same source, the next sequence number, and the timestamp of one packet later
abbrev pub is_next_of : Stream → Packet → Packet → Bool
is_next_of stream last packet =
    nat_eq packet.ssrc last.ssrc && (nat_eq packet.seq ((last.seq + 1) % 2 ^ 16) && nat_eq packet.ts ((last.ts + stream.frames) % 2 ^ 32))

-- each of these packets is off, and follows the packet before it
abbrev pub is_sequence : Stream → List (Bool × Packet) → Bool
is_sequence stream [] = true
is_sequence stream ((off, packet) ∷ []) = off
is_sequence stream ((off, packet) ∷ (off', packet') ∷ rest) = off && (is_next_of stream packet packet' && is_sequence stream ((off', packet') ∷ rest))

-- the last `count` elements of a list
abbrev pub last_few : {A : Type 0} → ℕ → List A → List A
last_few count xs = drop (length xs - count) xs

-- at least eight packets count, and the last eight are in sequence
abbrev pub completes_probation : Stream → List (Bool × Packet) → Bool
completes_probation stream heard = nat_le min_sequential (length heard) && is_sequence stream (last_few min_sequential heard)

-- an arrival that counts for the probation of path `on`, with whether it is off: packets of other paths and of a
-- source that the stream doesn't ask for don't count
abbrev pub heard_at : Stream → Anchor → ℕ → ℤ → List Event → Event → List (Bool × Packet)
heard_at stream anchor on open_at before (Arrive path packet) =
    if is_counting before && (nat_eq path on && is_source_wanted stream.ssrc packet.ssrc) then (is_off stream anchor (next_number stream anchor (time_of open_at before)) packet, packet) ∷ [] else []
heard_at stream anchor on open_at before (Tick u) = []
heard_at stream anchor on open_at before Close = []

-- what `f` returns for the events from this place on, put together in order
abbrev pub from_place : {A : Type 0} → (List Event → Event → List A) → ℕ → List Event → List A
from_place f place events = at_places f (take place events) (drop place events)

-- the packets that count for a path's probation, after the anchor's arrival
abbrev pub heard_since : Stream → ℤ → ℕ → Anchor → List Event → ℕ → List (Bool × Packet)
heard_since stream open_at place anchor events path = from_place (heard_at stream anchor path open_at) (suc place) events
