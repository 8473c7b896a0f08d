-- The events of a run that its observer is called with, and the changes of gains.
use Rattle.std.specs.Prelude.{◌≡◌, ℕ, List, [], ◌∷◌, ◌++◌, ℤ, Option, None, Some, IfSome, IsSomeAnd, slice_get}
use Rattle.rtp_stream.specs.declared.stream_spec.Stream.{Stream}
use Rattle.studio_session.specs.Event.{TraceEvent, Arrival, Tick, Closing}
use Rattle.studio_session.specs.Fault.{time_at}
use Rattle.studio_session.specs.ArriveOutcome.{outcome_of}
use Rattle.studio_session.specs.declared.arrive_outcome.ArriveOutcome.{ArriveOutcome}

-- a notification: a datagram came on a path of a stream at a time, with an outcome, or the engine was closed at a time
pub data Heard : Type 0 where
  Came : ℕ → ℕ → ℤ → List ℕ → ArriveOutcome → Heard
  Closed : ℤ → Heard

-- the notification of a datagram that came after these events, if there is its stream: it has the last reading before
-- it, and the outcome that the stream's history gives it
abbrev pub came_of : Option Stream → ℤ → List TraceEvent → ℕ → ℕ → List ℕ → List Heard
came_of None open_at before stream path octets = []
came_of (Some spec) open_at before stream path octets = Came stream path (time_at open_at before) octets (outcome_of spec stream open_at before path octets) ∷ []

-- the notification of an event that came after these: a clock reading has none
abbrev pub heard_of : List Stream → ℤ → List TraceEvent → TraceEvent → List Heard
heard_of streams open_at before (Arrival stream path octets) = came_of (slice_get streams stream) open_at before stream path octets
heard_of streams open_at before (Tick later) = []
heard_of streams open_at before Closing = Closed (time_at open_at before) ∷ []

-- the notifications of events that came after the events `before`: one of each arrival and of each close, with the last
-- reading before it
abbrev pub heard_by : List Stream → ℤ → List TraceEvent → List TraceEvent → List Heard
heard_by streams open_at before [] = []
heard_by streams open_at before (event ∷ events) = heard_of streams open_at before event ++ heard_by streams open_at (before ++ event ∷ []) events

-- if the notifications that an observer got are known afterwards, they were known before, and exactly these came in
-- between
abbrev pub Hears : Option (List Heard) → List Heard → Option (List Heard) → Type 0
Hears before told after = IfSome after (λ all. IsSomeAnd before (λ earlier. all ≡ earlier ++ told))

-- if the changes of gains that an observer noted are known afterwards, they were known before, and exactly these came
-- in between. A change is the time from which gains are in force, and the gains, row by row
abbrev pub NotesChanges : Option (List (ℤ × List ℤ)) → List (ℤ × List ℤ) → Option (List (ℤ × List ℤ)) → Type 0
NotesChanges before changes after = IfSome after (λ all. IsSomeAnd before (λ earlier. all ≡ earlier ++ changes))

-- the observer noted exactly the changes that the source took from `first` to `last`, in their order
pub record HasNotedTaken (first last : List (ℤ × List ℤ)) (before after : Option (List (ℤ × List ℤ))) : Type 0 where
  pub changes : List (ℤ × List ℤ)
  pub taken : last ≡ first ++ changes
  pub noted : NotesChanges before changes after
