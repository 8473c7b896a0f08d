-- The part of a stream's listing that was written.
use Rattle.std.specs.Prelude.{◌≡◌, ℕ, ℤ, List, [], take, drop, Option}
use Rattle.rtp_stream.specs.declared.stream_spec.Stream.{Stream}
use Rattle.studio_session.specs.Event.{TraceEvent}
use Rattle.studio_session.specs.Cursor.{CursorState, HasPulled}
use Rattle.studio_session.specs.Play.{stream_marks}
use Rattle.studio_run.specs.Buffer.{PassesOn}
use Rattle.studio_run.specs.Text.{marks_text}

-- a stream's cursor returned the first marks of the stream, and their lines were added after the octets that the buffer
-- held
pub record HasListed (stream : Stream) (number : ℕ) (open_at : ℤ) (events : List TraceEvent) (written : Option (List ℕ)) (held : List ℕ) (cursor : CursorState) (written_then : Option (List ℕ)) (held_then : List ℕ) : Type 0 where
  pub given : ℕ
  pub pulled : HasPulled stream number open_at events cursor given
  pub wrote : PassesOn written held written_then held_then (marks_text number (take given (stream_marks stream number open_at events)))

-- `HasListed`, and the cursor returned all marks of the events that it took
pub record HasListedAll (stream : Stream) (number : ℕ) (open_at : ℤ) (events : List TraceEvent) (written : Option (List ℕ)) (held : List ℕ) (cursor : CursorState) (written_then : Option (List ℕ)) (held_then : List ℕ) : Type 0 where
  pub listed : HasListed stream number open_at events written held cursor written_then held_then
  pub none : [] ≡ take 1 (drop listed.given (stream_marks stream number open_at (take cursor.place events)))
