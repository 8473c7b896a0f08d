-- The marks that a history produces.
use Rattle.std.specs.Prelude.{ℕ, zero, suc, ◌-◌, max, Bool, true, false, not, ◌&&◌, ◌||◌, List, [], ◌∷◌, ◌++◌, ℤ, pos, ◌-ℤ◌, int_lt, Option, Some, None, if◌then◌else◌}
use Rattle.rtp_stream.specs.declared.stream_spec.Stream.{Stream}
use Rattle.rtp_stream.specs.StreamSpecFacts.{format_of}
use Rattle.rtp_stream.specs.MarkFacts.{MarkView}
use Rattle.rtp_stream.specs.declared.anchor.Anchor.{Anchor}
use Rattle.rtp_stream.specs.declared.packet.Packet.{Packet}
use Rattle.rtp_stream.specs.declared.mark.Body.{Body}
use Rattle.rtp_stream.specs.declared.mark.Body.TheVariants.{Got, Lost}
use Rattle.rtp_stream.specs.declared.mark.MarkKind.{MarkKind}
use Rattle.rtp_stream.specs.declared.mark.MarkKind.TheVariants.{Slot, Quiet, End}
use Rattle.rtp_stream.specs.declared.event.Event.{Event}
use Rattle.rtp_stream.specs.declared.event.Event.TheVariants.{Arrive, Tick, Close}
use Rattle.rtp_stream.specs.History.{time_of, is_closed}
use Rattle.rtp_stream.specs.Anchor.{media_time_of, next_number}
use Rattle.rtp_stream.specs.Grid.{end_of_copies, first_with}
use Rattle.rtp_stream.specs.Epochs.{anchor_of}
use Rattle.rtp_stream.specs.Copies.{copies_of, copies_of_all, copies_with}

abbrev pub body_of : Option Packet → Body
body_of (Some packet) = Got packet.payload
body_of None = Lost

-- the marks of a stream
abbrev pub slot_mark : Stream → Anchor → ℕ → Body → MarkView
slot_mark stream anchor number body = record { format = format_of stream; kind = Slot anchor.epoch number (media_time_of stream anchor number) body }

abbrev pub quiet_mark : Stream → ℤ → MarkView
quiet_mark stream until = record { format = format_of stream; kind = Quiet until }

abbrev pub end_mark : Stream → MarkView
end_mark stream = record { format = format_of stream; kind = End }

-- the slots of `count` numbers from `number` on, each with its earliest copy
abbrev pub slots_from : Stream → Anchor → List (ℕ × Packet) → ℕ → ℕ → List MarkView
slots_from stream anchor copies number zero = []
slots_from stream anchor copies number (suc count) =
    slot_mark stream anchor number (body_of (first_with number copies)) ∷ slots_from stream anchor copies (suc number) count

abbrev pub is_slot : MarkKind → Bool
is_slot (Slot epoch number media body) = true
is_slot (Quiet until) = false
is_slot End = false

abbrev pub has_slot : List MarkView → Bool
has_slot [] = false
has_slot (mark ∷ marks) = is_slot mark.kind || has_slot marks

abbrev pub is_past_quiet : ℤ → MarkKind → Bool
is_past_quiet time (Slot epoch number media body) = true
is_past_quiet time (Quiet until) = int_lt until time
is_past_quiet time End = true

-- the time is greater than that of every Quiet
abbrev pub is_past_quiets : ℤ → List MarkView → Bool
is_past_quiets time [] = true
is_past_quiets time (mark ∷ marks) = is_past_quiet time mark.kind && is_past_quiets time marks

-- the slots whose deadlines come when the time moves from `from` to `to`
abbrev pub slots_between : Stream → List (ℕ × Packet) → Option Anchor → ℤ → ℤ → List MarkView
slots_between stream copies None from to = []
slots_between stream copies (Some anchor) from to =
    slots_from stream anchor copies (next_number stream anchor from) (next_number stream anchor to - next_number stream anchor from)

-- the slots that a close produces: from the number due next to the greatest number with a copy
abbrev pub slots_at_close : Stream → List (ℕ × Packet) → Option Anchor → ℤ → List MarkView
slots_at_close stream copies None time = []
slots_at_close stream copies (Some anchor) time =
    slots_from stream anchor copies (next_number stream anchor time) (end_of_copies copies - next_number stream anchor time)

-- a Quiet with this time is produced only before the first slot, after the start, and after every earlier Quiet
abbrev pub is_quiet_new : Stream → ℤ → List MarkView → ℤ → Bool
is_quiet_new stream open_at given until = not (has_slot given) && (int_lt (open_at -ℤ pos stream.latency) until && is_past_quiets until given)

-- a clock reading produces its slots; if it has none, it produces a Quiet that is new, or nothing
abbrev pub slots_or_quiet : Stream → ℤ → List MarkView → ℤ → List MarkView → List MarkView
slots_or_quiet stream open_at given to (mark ∷ marks) = mark ∷ marks
slots_or_quiet stream open_at given to [] =
    if is_quiet_new stream open_at given (to -ℤ pos stream.latency) then quiet_mark stream (to -ℤ pos stream.latency) ∷ [] else []

-- the marks that an event produces after the events and marks before it, with this anchor in force
-- and these copies in the anchor's epoch
abbrev pub marks_under : Stream → ℤ → Option Anchor → List (ℕ × Packet) → List MarkView → List Event → Event → List MarkView
marks_under stream open_at anchor copies given before (Arrive path packet) = []
marks_under stream open_at anchor copies given before (Tick u) =
    if is_closed before then [] else slots_or_quiet stream open_at given u (slots_between stream copies anchor (time_of open_at before) u)
marks_under stream open_at anchor copies given before Close =
    if is_closed before then [] else slots_at_close stream copies anchor (time_of open_at before) ++ end_mark stream ∷ []

-- the marks that an event produces, with the anchor in force before it; `copies` are those of the whole history
abbrev pub marks_at : Stream → ℤ → List (ℕ × (ℕ × Packet)) → List MarkView → List Event → Event → List MarkView
marks_at stream open_at copies given before event = marks_under stream open_at (anchor_of stream open_at before) (copies_with (anchor_of stream open_at before) copies) given before event

unfoldable pub marks_from : Stream → ℤ → List (ℕ × (ℕ × Packet)) → List MarkView → List Event → List Event → List MarkView
marks_from stream open_at copies given before [] = given
marks_from stream open_at copies given before (event ∷ events) =
    marks_from stream open_at copies (given ++ marks_at stream open_at copies given before event) (before ++ event ∷ []) events

-- the marks of a history
unfoldable pub marks_of : Stream → ℤ → List Event → List MarkView
marks_of stream open_at events = marks_from stream open_at (copies_of_all stream open_at events) [] [] events

-- the end of the span that a history must have slots for in the epoch in force: the span begins at the anchor's number
abbrev pub span_end : Stream → ℤ → List Event → Anchor → ℕ
span_end stream open_at events anchor =
    if is_closed events then max (next_number stream anchor (time_of open_at events)) (end_of_copies (copies_of stream open_at events))
    else next_number stream anchor (time_of open_at events)
