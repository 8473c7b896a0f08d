use Rattle.std.proofs.Common.{◌≡◌, ◌<◌, ℕ, true, List, length, None, Some, slice_get}
use Rattle.studio_config.specs.Studio.{Studio}
use Rattle.studio_mix.specs.LaneCapacity.{capacities_of}
use Rattle.studio_session.specs.Event.{TraceEvent}
use Rattle.studio_session.specs.Cursor.{CursorState}
use Rattle.studio_session.specs.PushedEvents.{HaveTaken}
use Rattle.studio_session.specs.Play.{HasPlayed, IsRunnableBy}
use Rattle.studio_engine.specs.Engine.{HaveCome}
use Rattle.studio_engine.specs.Near.{HasCapacities, IsAwaited}
use Rattle.studio_engine.proofs.early_marks.keep_early_marks.Given as goal

-- the marks of the streams so far were kept
abbrev pub invariant-loop-stream : goal.invariant-loop-stream
invariant-loop-stream l = record {
  stands : (studio : Studio) (events : List TraceEvent) (next : ℕ) → IsRunnableBy studio events
      → HasPlayed studio events (record { mixer = l.fn.mixer; cursors = l.fn.cursors }) next
      → HasPlayed studio events (record { mixer = l.mixer; cursors = l.cursors }) next;
  full : (studio : Studio) (events : List TraceEvent) (next : ℕ) → IsAwaited studio events next → HasCapacities studio l.fn.mixer → HaveTaken events l.fn.cursors
      → HasPlayed studio events (record { mixer = l.fn.mixer; cursors = l.fn.cursors }) next → l.all ≡ true;
  come : (count : ℕ) → HaveCome count l.fn.cursors → HaveCome count l.cursors;
  idle : l.all ≡ true → (i : ℕ) (cursor : CursorState) → i < l.stream → slice_get l.cursors i ≡ Some cursor → cursor.reading ≡ None;
  packer : l.mixer.packer ≡ l.fn.mixer.packer;
  streams : length l.mixer.lanes ≡ length l.fn.mixer.lanes;
  capacities : capacities_of l.mixer.lanes ≡ capacities_of l.fn.mixer.lanes;
}
