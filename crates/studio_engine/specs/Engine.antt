-- The state of an engine, as contracts see it.
use Rattle.std.specs.Prelude.{◌≡◌, ℕ, ◌^◌, Bool, true, false, nat_lt, List, length, slice_get, ℤ, pos, ◌+ℤ◌, ◌≤ℤ◌, Option, Some, None, All, if◌then◌else◌}
use Rattle.rtp_stream.specs.declared.stream_spec.Stream.{Stream}
use Rattle.path_merge.specs.Steps.{next_deadline_of}
use Rattle.studio_mix.specs.Mixer.{MixerState}
use Rattle.studio_session.specs.Cursor.{CursorState}
use Rattle.studio_session.specs.Play.{SessionState}
use Rattle.studio_engine.specs.declared.fault.ArriveFault.{ArriveFault}
use Rattle.studio_engine.specs.declared.fault.ArriveFault.TheVariants.{Unfinished, Stream as NoStream, Path as NoPath, Full}

-- `count` is the number of events that the engine took
pub record EngineState : Type 0 where
  pub mixer : MixerState
  pub cursors : List CursorState
  pub time : ℤ
  pub turning : Bool
  pub closed : Bool
  pub settled : Bool
  pub count : ℕ

-- the session of an engine
abbrev pub session_of : EngineState → SessionState
session_of engine = record { mixer = engine.mixer; cursors = engine.cursors }

-- every cursor took this number of events
abbrev pub HaveCome : ℕ → List CursorState → Type 0
HaveCome count cursors = All (λ (cursor : CursorState). cursor.place ≡ count) cursors

-- no cursor has a reading that it still has to reach
abbrev pub AreIdle : List CursorState → Type 0
AreIdle cursors = All (λ (cursor : CursorState). cursor.reading ≡ None) cursors

pub record IsEngine (engine : EngineState) : Type 0 where
  pub streams : length engine.cursors ≡ length engine.mixer.lanes
  pub taken : HaveCome engine.count engine.cursors
  pub idle : engine.turning ≡ false → AreIdle engine.cursors
  pub not_early : pos 0 ≤ℤ engine.time
  pub not_late : engine.time ≤ℤ pos (2 ^ 60)
  pub few : pos engine.count ≤ℤ ((pos (2 ^ 62) +ℤ engine.time) +ℤ pos 1)
  pub few_open : engine.closed ≡ false → pos engine.count ≤ℤ (pos (2 ^ 62) +ℤ engine.time)
  pub open_yet : engine.turning ≡ true → engine.closed ≡ false
  pub shut : engine.settled ≡ true → engine.closed ≡ true

-- every stream has returned all its marks of the events so far: no turn is under way, and if the engine was closed, it
-- is settled
pub record HasAllMarks (engine : EngineState) : Type 0 where
  pub idle : engine.turning ≡ false
  pub given : engine.closed ≡ true → engine.settled ≡ true

-- why a datagram for a path of a stream is not taken: the stream does not have the path, or 2^62 events were taken
abbrev pub path_fault_of : ℕ → ℕ → ℕ → Option ArriveFault
path_fault_of count path paths = if nat_lt path paths then (if nat_lt count (2 ^ 62) then None else Some Full) else Some NoPath

abbrev pub stream_fault_of : ℕ → ℕ → Option CursorState → Option ArriveFault
stream_fault_of count path None = Some NoStream
stream_fault_of count path (Some cursor) = path_fault_of count path cursor.spec.paths

-- why a datagram for a stream and a path is not taken: the first fault of an unfinished turn, the stream, the path and
-- the number of events
abbrev pub arrive_fault_of : EngineState → ℕ → ℕ → Option ArriveFault
arrive_fault_of engine stream path = if engine.turning then Some Unfinished else stream_fault_of engine.count path (slice_get engine.cursors stream)

-- the specification of a stream, if there is the stream
abbrev pub stream_spec_of : Option CursorState → Option Stream
stream_spec_of None = None
stream_spec_of (Some cursor) = Some cursor.spec

-- the deadline of a stream's next slot, if there is the stream and a next slot
abbrev pub stream_deadline_of : Option CursorState → Option ℤ
stream_deadline_of None = None
stream_deadline_of (Some cursor) = next_deadline_of cursor.merge
