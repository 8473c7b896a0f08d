-- The packets that are in time under an anchor: source, grid, deadline and window.
use Rattle.std.specs.Prelude.{ℕ, suc, ◌+◌, ◌^◌, Bool, ◌&&◌, nat_lt, nat_le, nat_eq, max, List, [], ◌∷◌, ℤ, pos, ◌+ℤ◌, ◌-ℤ◌, ◌*ℤ◌, Option, Some, None, if◌then◌else◌, unsigned_abs}
use Rattle.std.specs.Int.{int_rem_euclid}
use Rattle.rtp_stream.specs.Nearest.{nearest_number}
use Rattle.rtp_stream.specs.declared.stream_spec.Stream.{Stream}
use Rattle.rtp_stream.specs.declared.anchor.Anchor.{Anchor}
use Rattle.rtp_stream.specs.declared.packet.Packet.{Packet}
use Rattle.rtp_stream.specs.declared.event.Event.{Event}
use Rattle.rtp_stream.specs.declared.event.Event.TheVariants.{Arrive, Tick, Close}
use Rattle.rtp_stream.specs.History.{time_of, is_counting}
use Rattle.rtp_stream.specs.Anchor.{next_number}

-- the extended sequence number of a packet, if `next` is the number due next
abbrev pub extended_number : Packet → ℕ → ℕ
extended_number packet next = unsigned_abs (nearest_number 32768 packet.seq (pos next))

-- the timestamp that is in step with a number
abbrev pub expected_timestamp : Stream → Anchor → ℕ → ℕ
expected_timestamp stream anchor number = unsigned_abs (int_rem_euclid (pos anchor.timestamp +ℤ (pos number -ℤ pos anchor.number) *ℤ pos stream.frames) (pos (2 ^ 32)))

abbrev pub is_on_grid : Stream → Anchor → ℕ → ℕ → Bool
is_on_grid stream anchor number ts = nat_eq ts (expected_timestamp stream anchor number)

-- from the anchor's source, on the grid, not past its deadline, and within the window
abbrev pub is_in_time : Stream → Anchor → ℕ → Packet → Bool
is_in_time stream anchor next packet =
    nat_eq packet.ssrc anchor.source
    && (is_on_grid stream anchor (extended_number packet next) packet.ts
    && (nat_le next (extended_number packet next) && nat_lt (extended_number packet next) (next + stream.window)))

-- the stream with a window of this many numbers
abbrev pub of_width : Stream → ℕ → Stream
of_width stream width = record stream { window = width }

abbrev pub copies_under : Stream → ℤ → Bool → Option Anchor → Packet → List (ℕ × Packet)
copies_under stream time counting None packet = []
copies_under stream time counting (Some anchor) packet =
    if counting && is_in_time stream anchor (next_number stream anchor time) packet then (extended_number packet (next_number stream anchor time), packet) ∷ [] else []

-- the earliest copy with this number
abbrev pub first_with : ℕ → List (ℕ × Packet) → Option Packet
first_with number [] = None
first_with number ((n, packet) ∷ copies) = if nat_eq n number then Some packet else first_with number copies

-- one past the greatest number with a copy, or 0
abbrev pub end_of_copies : List (ℕ × Packet) → ℕ
end_of_copies [] = 0
end_of_copies ((n, packet) ∷ copies) = max (suc n) (end_of_copies copies)
