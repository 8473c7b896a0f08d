-- The cursors of an engine's streams, some of which may be behind.
use Rattle.std.specs.Prelude.{ℕ, ◌≤◌, List, map, All}
use Rattle.studio_session.specs.Cursor.{CursorState, at_place}

-- the cursors as contracts see them, each as if it had passed over all events that it missed, and the number of events
-- that the engine took
pub record CursorsState : Type 0 where
  pub cursors : List CursorState
  pub count : ℕ

-- the cursors, each with this number of events taken
abbrev pub all_at : ℕ → List CursorState → List CursorState
all_at count cursors = map (at_place count) cursors

-- no cursor took more than this number of events
abbrev pub AreBehind : ℕ → List CursorState → Type 0
AreBehind count cursors = All (λ (cursor : CursorState). cursor.place ≤ count) cursors
