-- Events that come one by one, each after all events so far.
use Rattle.std.specs.Prelude.{◌≡◌, ℕ, ◌+◌, ◌<◌, ◌≤◌, List, [], ◌∷◌, ◌++◌, length, slice_get, ℤ, Some, All}
use Rattle.rtp_stream.specs.declared.stream_spec.Stream.{Stream}
use Rattle.studio_session.specs.Event.{TraceEvent}
use Rattle.studio_session.specs.Cursor.{CursorState, HasPulled, IsRunnable}

-- the cursor of this stream took one more event, which comes after all events so far
pub record IsHanded (event : TraceEvent) (number : ℕ) (old new : CursorState) : Type 0 where
  pub spec : new.spec ≡ old.spec
  pub place : new.place ≡ old.place + 1
  pub stands : (stream : Stream) (open_at : ℤ) (events : List TraceEvent) (k : ℕ) → IsRunnable stream number open_at (events ++ event ∷ [])
      → old.place ≡ length events → HasPulled stream number open_at events old k → HasPulled stream number open_at (events ++ event ∷ []) new k

-- the first `count` cursors took one more event, and the others are as before
pub record AreHanded (event : TraceEvent) (first cursors : List CursorState) (count : ℕ) : Type 0 where
  pub length_is : length cursors ≡ length first
  pub each : (i : ℕ) (old new : CursorState) → i < count → slice_get first i ≡ Some old → slice_get cursors i ≡ Some new → IsHanded event i old new
  pub others : (i : ℕ) (old new : CursorState) → count ≤ i → slice_get first i ≡ Some old → slice_get cursors i ≡ Some new → new ≡ old

-- each cursor took all of these events
abbrev pub HaveTaken : List TraceEvent → List CursorState → Type 0
HaveTaken events cursors = All (λ (cursor : CursorState). cursor.place ≡ length events) cursors
