-- Events of a trace as places of its text.
use Rattle.std.specs.Prelude.{ℕ, ◌+◌, ◌-◌, ◌≤◌, List, [], ◌∷◌, length, slice_range, Option, Some, None, IsSome}
use Rattle.studio_session.specs.Event.{TraceEvent, Arrival, Tick, Closing}
use Rattle.studio_run.specs.Trace.{octets_of}
use Rattle.studio_run.specs.LineEvent.{octets_by}
use Rattle.studio_run.specs.declared.trace.line.LineEvent.{LineEvent}
use Rattle.studio_run.specs.declared.trace.line.LineEvent.TheVariants.{Arrive as LineArrive, Tick as LineTick, Close as LineClose}
use Rattle.studio_run.specs.declared.trace.text_events.TextEvent.{TextEvent}
use Rattle.studio_run.specs.declared.trace.text_events.TextEvent.TheVariants.{Arrive, Tick as TextTick, Close}

-- the event of a place
abbrev pub event_at : List ℕ → TextEvent → TraceEvent
event_at text (Arrive stream path start end) = Arrival stream path (octets_by (slice_range text start end))
event_at text (TextTick time) = Tick time
event_at text Close = Closing

-- the place is within the text, and its digits, at most 4,096, spell a datagram
abbrev pub IsPlace : List ℕ → TextEvent → Type 0
IsPlace text (Arrive stream path start end) = (start ≤ end) × (end ≤ length text) × (end ≤ start + 4096) × IsSome (octets_of (slice_range text start end))
IsPlace text (TextTick time) = Unit {0}
IsPlace text Close = Unit {0}

-- the place of the event of a line that ends at `end`
abbrev pub text_event : ℕ → LineEvent → TextEvent
text_event end (LineArrive stream path digits) = Arrive stream path (end - length digits.now) end
text_event end (LineTick time) = TextTick time
text_event end LineClose = Close

-- the number of digits of the event's datagram, 0 if it has none
abbrev pub digits_in : LineEvent → ℕ
digits_in (LineArrive stream path digits) = length digits.now
digits_in (LineTick time) = 0
digits_in LineClose = 0

-- the event of a place, if there is one
abbrev pub said_at : List ℕ → Option TextEvent → List TraceEvent
said_at text None = []
said_at text (Some place) = event_at text place ∷ []
