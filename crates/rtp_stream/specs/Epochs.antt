-- The anchors of a history: the first acceptable packet opens epoch 0, and each restart of the source the next one.
use Rattle.std.specs.Prelude.{ℕ, Bool, ◌&&◌, ◌||◌, nat_le, List, [], ◌∷◌, ◌++◌, length, ℤ, Option, Some, None, if◌then◌else◌}
use Rattle.rtp_stream.specs.declared.stream_spec.Stream.{Stream}
use Rattle.rtp_stream.specs.declared.anchor.Anchor.{Anchor}
use Rattle.rtp_stream.specs.declared.packet.Packet.{Packet}
use Rattle.rtp_stream.specs.declared.event.Event.{Event}
use Rattle.rtp_stream.specs.declared.event.Event.TheVariants.{Arrive, Tick, Close}
use Rattle.rtp_stream.specs.History.{time_of, is_counting}
use Rattle.rtp_stream.specs.Anchor.{anchor_from, can_anchor, is_restart_in_reach, is_source_wanted, media_time_of, next_number, restart_from, restart_media_time}
use Rattle.rtp_stream.specs.Grid.{copies_under, end_of_copies, of_width}
use Rattle.rtp_stream.specs.Probation.{completes_probation, from_place, heard_since}
use Rattle.rtp_stream.specs.Follow.{is_slip, width_since}

-- the last of a list
abbrev pub last_of : {A : Type 0} → List A → Option A
last_of [] = None
last_of (x ∷ []) = Some x
last_of (x ∷ y ∷ xs) = last_of (y ∷ xs)

-- the arrival is an in-time copy of this number under this anchor, which is in force since its place
abbrev pub copies_under_at : Stream → ℕ → Anchor → ℤ → List Event → Event → List (ℕ × Packet)
copies_under_at stream place anchor open_at before (Arrive path packet) =
    copies_under (of_width stream (width_since stream open_at place anchor before)) (time_of open_at before) (is_counting before) (Some anchor) packet
copies_under_at stream place anchor open_at before (Tick u) = []
copies_under_at stream place anchor open_at before Close = []

-- in-time copies from the anchor's arrival on
abbrev pub copies_since : Stream → ℤ → ℕ → Anchor → List Event → List (ℕ × Packet)
copies_since stream open_at place anchor events = from_place (copies_under_at stream place anchor open_at) place events

-- nothing is held: no number from the one due next on has a copy, so every copy was passed on
abbrev pub is_all_given : Stream → ℤ → ℕ → Anchor → List Event → Bool
is_all_given stream open_at place anchor events = nat_le (end_of_copies (copies_since stream open_at place anchor events)) (next_number stream anchor (time_of open_at events))

-- media time doesn't go back with this packet, if this anchor is in force
abbrev pub continues_media_time : Stream → ℤ → Anchor → Packet → Bool
continues_media_time stream time anchor packet =
    is_restart_in_reach stream time (media_time_of stream anchor (next_number stream anchor time)) (restart_media_time stream.clock packet.ts time (media_time_of stream anchor (next_number stream anchor time)))

-- the packet opens the next epoch: nothing is held, media time doesn't go back, its source is wanted, and with it
-- a probation is complete on its path or its sender is astray
abbrev pub can_restart : Stream → ℤ → ℕ → Anchor → List Event → ℕ → Packet → Bool
can_restart stream open_at place anchor before path packet =
    continues_media_time stream (time_of open_at before) anchor packet
    && (is_all_given stream open_at place anchor before
    && (is_source_wanted stream.ssrc packet.ssrc
    && (completes_probation stream (heard_since stream open_at place anchor (before ++ Arrive path packet ∷ []) path) || is_slip stream open_at place anchor before path packet)))

-- the anchor that an arrival makes, if this anchor is in force since its place
abbrev pub anchors_after : Stream → ℤ → Option (ℕ × Anchor) → List Event → ℕ → Packet → List Anchor
anchors_after stream open_at None before path packet =
    if can_anchor stream (time_of open_at before) packet then anchor_from stream (time_of open_at before) packet ∷ [] else []
anchors_after stream open_at (Some (place, anchor)) before path packet =
    if can_restart stream open_at place anchor before path packet
    then restart_from stream (time_of open_at before) anchor (next_number stream anchor (time_of open_at before)) packet ∷ [] else []

-- the anchors, each with this place
abbrev pub placed : ℕ → List Anchor → List (ℕ × Anchor)
placed place [] = []
placed place (anchor ∷ anchors) = (place, anchor) ∷ placed place anchors

abbrev pub anchors_at : Stream → ℤ → List (ℕ × Anchor) → List Event → Event → List (ℕ × Anchor)
anchors_at stream open_at given before (Arrive path packet) =
    if is_counting before then placed (length before) (anchors_after stream open_at (last_of given) before path packet) else []
anchors_at stream open_at given before (Tick u) = []
anchors_at stream open_at given before Close = []

unfoldable pub anchors_from : Stream → ℤ → List (ℕ × Anchor) → List Event → List Event → List (ℕ × Anchor)
anchors_from stream open_at given before [] = given
anchors_from stream open_at given before (event ∷ events) =
    anchors_from stream open_at (given ++ anchors_at stream open_at given before event) (before ++ event ∷ []) events

-- the anchors of a history, each with the place of its arrival; the anchor of epoch 0 is the first
unfoldable pub anchors_of : Stream → ℤ → List Event → List (ℕ × Anchor)
anchors_of stream open_at events = anchors_from stream open_at [] [] events

abbrev pub anchor_in : Option (ℕ × Anchor) → Option Anchor
anchor_in None = None
anchor_in (Some (place, anchor)) = Some anchor

-- the width of the window after a history, if this anchor is in force since its place
abbrev pub width_in_force : Stream → ℤ → Option (ℕ × Anchor) → List Event → ℕ
width_in_force stream open_at None events = stream.window
width_in_force stream open_at (Some (place, anchor)) events = width_since stream open_at place anchor events

-- the anchor in force after a history
unfoldable pub anchor_of : Stream → ℤ → List Event → Option Anchor
anchor_of stream open_at events = anchor_in (last_of (anchors_of stream open_at events))
