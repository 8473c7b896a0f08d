-- The mark that a merge returns next.
use Rattle.std.specs.Prelude.{◌+◌, nat_eq, ℤ, pos, ◌-ℤ◌, int_le, Option, Some, None, if◌then◌else◌}
use Rattle.std.specs.FinMap.{get}
use Rattle.rtp_stream.specs.MarkFacts.{MarkView}
use Rattle.rtp_stream.specs.declared.anchor.Anchor.{Anchor}
use Rattle.rtp_stream.specs.Anchor.{deadline_of}
use Rattle.rtp_stream.specs.Marks.{body_of, end_mark, quiet_mark, slot_mark}
use Rattle.path_merge.specs.MergeState.{MergeState, held_count}
use Rattle.path_merge.specs.Steps.{is_quiet_due}

-- the slot of the base
abbrev pub slot_next : MergeState → Anchor → MarkView
slot_next m anchor = slot_mark m.spec anchor m.base (body_of (get m.held m.base))

-- the Quiet that a clock reading produces, if it is later than the last one and there was no slot
abbrev pub quiet_next : MergeState → ℤ → Option MarkView
quiet_next m now =
    if is_quiet_due (nat_eq (m.counts.got + m.counts.lost) 0) m.quiet (now -ℤ pos m.spec.latency) then Some (quiet_mark m.spec (now -ℤ pos m.spec.latency)) else None

-- the anchor, if the deadline of the base has come
abbrev pub anchor_if_due : MergeState → ℤ → Option Anchor → Option Anchor
anchor_if_due m now None = None
anchor_if_due m now (Some anchor) = if int_le (deadline_of m.spec anchor m.base) now then Some anchor else None

abbrev pub anchor_due : MergeState → ℤ → Option Anchor
anchor_due m now = anchor_if_due m now m.anchor

abbrev pub slot_or_quiet : MergeState → ℤ → Option Anchor → Option MarkView
slot_or_quiet m now (Some anchor) = Some (slot_next m anchor)
slot_or_quiet m now None = quiet_next m now

-- the mark that a clock reading produces next: the slot that is due, or a Quiet that is new
abbrev pub next_mark : MergeState → ℤ → Option MarkView
next_mark m now = slot_or_quiet m now (anchor_due m now)

-- the anchor, if a packet is held
abbrev pub anchor_if_held : MergeState → Option Anchor → Option Anchor
anchor_if_held m None = None
anchor_if_held m (Some anchor) = if nat_eq (held_count m.held m.base m.spec.window) 0 then None else Some anchor

abbrev pub anchor_after_close : MergeState → Option Anchor
anchor_after_close m = anchor_if_held m m.anchor

abbrev pub slot_or_end : MergeState → Option Anchor → MarkView
slot_or_end m (Some anchor) = slot_next m anchor
slot_or_end m None = end_mark m.spec

-- the mark that is left next after a close: the slot of the base while a packet is held, then the end
abbrev pub next_left : MergeState → Option MarkView
next_left m = if m.closed then (if m.ended then None else Some (slot_or_end m (anchor_after_close m))) else None
