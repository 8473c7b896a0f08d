use Rattle.std.proofs.Common.{◌≡◌, ◌≤◌, ℕ, length, take, All, Some, slice_get}
use Rattle.studio_run.proofs.StudioListingLemmas.{AreFirstPulled}
use Rattle.studio_config.specs.Studio.{Studio}
use Rattle.studio_session.specs.Cursor.{CursorState, IsReadyFor}
use Rattle.studio_session.specs.Play.{IsRunnableBy, AreNew}
use Rattle.studio_run.specs.Buffer.{PassesOn}
use Rattle.studio_run.specs.Listing.{stream_listing, texts_from}
use Rattle.studio_run.proofs.outputs.listing.write_listing.Given as goal

-- the lines of the streams so far were written, and the other streams are as they were
abbrev pub invariant-loop-number : goal.invariant-loop-number
invariant-loop-number g l = record {
  ready : All (IsReadyFor (g.E.EventSource.events l.source)) l.cursors;
  rest : (j : ℕ) (cursor : CursorState) → l.number ≤ j → slice_get l.cursors j ≡ Some cursor → slice_get l.fn.cursors j ≡ Some cursor;
  wrote : (studio : Studio) → IsRunnableBy studio (g.E.EventSource.events l.source) → AreNew studio.streams studio.open_at l.fn.cursors (length studio.streams)
      → PassesOn (g.W.Write.contents l.fn.writer) l.fn.text (g.W.Write.contents l.writer) l.text (texts_from (stream_listing studio.open_at (g.E.EventSource.events l.source)) 0 (take l.number studio.streams));
  pulled : (studio : Studio) → IsRunnableBy studio (g.E.EventSource.events l.source) → AreNew studio.streams studio.open_at l.fn.cursors (length studio.streams)
      → AreFirstPulled studio (g.E.EventSource.events l.source) l.cursors l.number;
}
