-- Copies of a packet that come in time (SMPTE ST 2022-7), by epochs.
use Rattle.std.specs.Prelude.{ℕ, Bool, nat_eq, List, [], ◌∷◌, ◌++◌, ℤ, Option, Some, None, if◌then◌else◌}
use Rattle.rtp_stream.specs.declared.stream_spec.Stream.{Stream}
use Rattle.rtp_stream.specs.declared.anchor.Anchor.{Anchor}
use Rattle.rtp_stream.specs.declared.packet.Packet.{Packet}
use Rattle.rtp_stream.specs.declared.event.Event.{Event}
use Rattle.rtp_stream.specs.declared.event.Event.TheVariants.{Arrive, Tick, Close}
use Rattle.rtp_stream.specs.History.{time_of, is_counting, at_places}
use Rattle.rtp_stream.specs.Grid.{copies_under, first_with, of_width}
use Rattle.rtp_stream.specs.Epochs.{anchor_of, anchors_of, last_of, width_in_force}

-- these copies, each with the epoch of this anchor
abbrev pub with_epoch : Option Anchor → List (ℕ × Packet) → List (ℕ × (ℕ × Packet))
with_epoch None copies = []
with_epoch (Some anchor) [] = []
with_epoch (Some anchor) (copy ∷ copies) = (anchor.epoch, copy) ∷ with_epoch (Some anchor) copies

abbrev pub copies_under_with : Stream → ℤ → Bool → Option Anchor → Packet → List (ℕ × (ℕ × Packet))
copies_under_with stream time counting anchor packet = with_epoch anchor (copies_under stream time counting anchor packet)

-- the arrival is an in-time copy of this number, under the anchor in force with it
abbrev pub copies_at : Stream → ℤ → List Event → Event → List (ℕ × (ℕ × Packet))
copies_at stream open_at before (Arrive path packet) =
    copies_under_with (of_width stream (width_in_force stream open_at (last_of (anchors_of stream open_at (before ++ Arrive path packet ∷ []))) before)) (time_of open_at before) (is_counting before) (anchor_of stream open_at (before ++ Arrive path packet ∷ [])) packet
copies_at stream open_at before (Tick u) = []
copies_at stream open_at before Close = []

-- all in-time copies of all epochs on whichever path, the earliest first
unfoldable pub copies_of_all : Stream → ℤ → List Event → List (ℕ × (ℕ × Packet))
copies_of_all stream open_at events = at_places (copies_at stream open_at) [] events

-- the copies of this epoch
abbrev pub copies_in : ℕ → List (ℕ × (ℕ × Packet)) → List (ℕ × Packet)
copies_in epoch [] = []
copies_in epoch ((e, copy) ∷ copies) = if nat_eq e epoch then copy ∷ copies_in epoch copies else copies_in epoch copies

-- the copies of this anchor's epoch
abbrev pub copies_with : Option Anchor → List (ℕ × (ℕ × Packet)) → List (ℕ × Packet)
copies_with None copies = []
copies_with (Some anchor) copies = copies_in anchor.epoch copies

-- the copies of the epoch in force
unfoldable pub copies_of : Stream → ℤ → List Event → List (ℕ × Packet)
copies_of stream open_at events = copies_with (anchor_of stream open_at events) (copies_of_all stream open_at events)

-- the first copy that came in time, for a number of the epoch in force
abbrev pub first_copy : Stream → ℤ → List Event → ℕ → Option Packet
first_copy stream open_at events number = first_with number (copies_of stream open_at events)
