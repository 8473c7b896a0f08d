-- The event that a line was read as.
use Rattle.std.specs.Prelude.{◌≡◌, ℕ, ◌≤◌, List, [], ◌∷◌, ◌++◌, length, Option, Some, None, IsSome, IfSome, Result, Ok, Err, unwrap_or}
use Rattle.std.specs.Borrow.{Bor}
use Rattle.studio_run.specs.Fields.{EndsWith}
use Rattle.studio_session.specs.Event.{TraceEvent, Arrival, Tick, Closing}
use Rattle.studio_run.specs.Trace.{octets_of, ReadsLine}
use Rattle.studio_run.specs.declared.trace.line.LineEvent.{LineEvent}
use Rattle.studio_run.specs.declared.trace.line.LineEvent.TheVariants.{Arrive, Tick as LineTick, Close}
use Rattle.studio_run.specs.declared.trace.fault.TraceFaultKind.{TraceFaultKind}

-- the octets that digits spell, or none if they spell no octets
abbrev pub octets_by : List ℕ → List ℕ
octets_by digits = unwrap_or (octets_of digits) []

-- the event of a line, as contracts see it
abbrev pub said_in : LineEvent → TraceEvent
said_in (Arrive stream path digits) = Arrival stream path (octets_by digits.now)
said_in (LineTick time) = Tick time
said_in Close = Closing

-- the event of a line's fields, as contracts see it, or their fault
abbrev pub event_of : Result LineEvent TraceFaultKind → Result TraceEvent TraceFaultKind
event_of (Ok event) = Ok (said_in event)
event_of (Err kind) = Err kind

-- the event of a line, if it has one, as contracts see it, or the line's fault
abbrev pub line_event_of : Result (Option LineEvent) TraceFaultKind → Result (Option TraceEvent) TraceFaultKind
line_event_of (Ok None) = Ok None
line_event_of (Ok (Some event)) = Ok (Some (said_in event))
line_event_of (Err kind) = Err kind

-- the digits of a datagram are valid, and are at the end of this text
abbrev pub IsLast : List ℕ → LineEvent → Type 0
IsLast text (Arrive stream path digits) = EndsWith text digits.now × IsSome (octets_of digits.now)
IsLast text (LineTick time) = Unit {0}
IsLast text Close = Unit {0}

-- `IsLast` for the text that follows the line's word, if there is any
abbrev pub IsLastIn : Option (Bor (List ℕ)) → LineEvent → Type 0
IsLastIn (Some text) event = IsLast text.now event
IsLastIn None (Arrive stream path digits) = ⊥
IsLastIn None (LineTick time) = Unit {0}
IsLastIn None Close = Unit {0}

-- the event of a line, if it has one
abbrev pub said_by_line : Option LineEvent → List TraceEvent
said_by_line None = []
said_by_line (Some event) = said_in event ∷ []

-- the text begins with a line, and `rest` follows it; the line has this event, after `count` others, or none
pub record IsLineOf (text : List ℕ) (count : ℕ) (event : Option LineEvent) (rest : List ℕ) : Type 0 where
  pub line : List ℕ
  pub whole : text ≡ line ++ 10 ∷ rest
  pub short : length line ≤ 4096
  pub last : IfSome event (IsLast line)
  pub reads : ReadsLine line count (said_by_line event)
