-- The fate of an arrival.
use Rattle.std.specs.Prelude.{ℕ, Bool, false, ◌+◌, ◌*◌, ◌^◌, not, nat_lt, nat_eq, int_le, List, Option, Some, None, Result, Ok, Err, if◌then◌else◌, ℤ, pos, ◌+ℤ◌, ◌-ℤ◌}
use Rattle.rtp_stream.specs.declared.stream_spec.Stream.{Stream}
use Rattle.rtp_stream.specs.declared.anchor.Anchor.{Anchor}
use Rattle.rtp_stream.specs.declared.packet.Packet.{Packet}
use Rattle.rtp_stream.specs.declared.event.Event.{Event}
use Rattle.rtp_stream.specs.declared.fate.Put.{Put}
use Rattle.rtp_stream.specs.declared.fate.Put.TheVariants.{Taken as PutTaken, Double as PutDouble, Unlike as PutUnlike}
use Rattle.rtp_stream.specs.declared.fate.Fate.{Fate}
use Rattle.rtp_stream.specs.declared.fate.Fate.TheVariants.{Closed, CountersFull, WrongSource, OffGrid, Late, Ahead, Taken, Double, Unlike, Restarted}
use Rattle.rtp_stream.specs.History.{time_of, is_closed, arrival_count}
use Rattle.rtp_stream.specs.Anchor.{is_source_wanted, first_media_time, next_number}
use Rattle.rtp_stream.specs.Grid.{first_with, extended_number, of_width, is_on_grid}
use Rattle.rtp_stream.specs.Epochs.{anchor_of, anchors_of, can_restart, last_of, width_in_force}
use Rattle.rtp_stream.specs.Copies.{copies_of}
use Rattle.rtp_stream.specs.Put.{put_answer}

abbrev pub fate_of_put : Put → Fate
fate_of_put PutTaken = Taken
fate_of_put PutDouble = Double
fate_of_put PutUnlike = Unlike

-- the reason why a packet with this media time may not be the first of an epoch: it is late, or beyond the window
abbrev pub reach_fault_of : Stream → ℤ → ℤ → Option Fate
reach_fault_of stream time media =
    if int_le media (time -ℤ pos stream.latency) then Some Late
    else if int_le (time -ℤ pos stream.latency +ℤ pos (stream.window * stream.frames)) media then Some Ahead
    else None

abbrev pub fault_or : Option Fate → Fate → Fate
fault_or (Some fault) other = fault
fault_or None other = other

-- the fate of a packet that would be the first of the stream, if it arrives at this time
abbrev pub first_fate : Stream → ℤ → Packet → Fate
first_fate stream time packet =
    if not (is_source_wanted stream.ssrc packet.ssrc) then WrongSource
    else fault_or (reach_fault_of stream time (first_media_time stream.clock packet.ts time)) Taken

-- the number that a packet is a copy of in time, if `next` is due next, or the reason why there is none
abbrev pub place_of : Stream → Anchor → ℕ → Packet → Result ℕ Fate
place_of stream anchor next packet =
    if not (nat_eq packet.ssrc anchor.source) then Err WrongSource
    else if not (is_on_grid stream anchor (extended_number packet next) packet.ts) then Err OffGrid
    else if nat_lt (extended_number packet next) next then Err Late
    else if not (nat_lt (extended_number packet next) (next + stream.window)) then Err Ahead
    else Ok (extended_number packet next)

-- the fate of a packet with this number or fault, if `first` returns the first copy of each number
abbrev pub fate_at : Result ℕ Fate → (ℕ → Option Packet) → Packet → Fate
fate_at (Err fault) first packet = fault
fate_at (Ok number) first packet = fate_of_put (put_answer (first number) packet)

-- the fate of a packet after the anchor's, if `next` is due next and these copies came before
abbrev pub next_fate : Stream → Anchor → ℕ → List (ℕ × Packet) → Packet → Fate
next_fate stream anchor next copies packet = fate_at (place_of stream anchor next packet) (λ number. first_with number copies) packet

-- the fate of a packet that restarts nothing, in a window of this width
abbrev pub counted_fate : Stream → ℕ → ℤ → Option Anchor → List (ℕ × Packet) → Packet → Fate
counted_fate stream width time None copies packet = first_fate stream time packet
counted_fate stream width time (Some anchor) copies packet = next_fate (of_width stream width) anchor (next_number stream anchor time) copies packet

-- the arrival opens the next epoch, if this anchor is in force since its place
abbrev pub is_restart : Stream → ℤ → Option (ℕ × Anchor) → List Event → ℕ → Packet → Bool
is_restart stream open_at None events path packet = false
is_restart stream open_at (Some (place, anchor)) events path packet = can_restart stream open_at place anchor events path packet

-- the fate of an arrival after a history
abbrev pub fate_of : Stream → ℤ → List Event → ℕ → Packet → Fate
fate_of stream open_at events path packet =
    if is_closed events then Closed
    else if not (nat_lt (arrival_count events) (2 ^ 62)) then CountersFull
    else if is_restart stream open_at (last_of (anchors_of stream open_at events)) events path packet then Restarted
    else counted_fate stream (width_in_force stream open_at (last_of (anchors_of stream open_at events)) events) (time_of open_at events) (anchor_of stream open_at events) (copies_of stream open_at events) packet
