use Rattle.std.proofs.Common.{◌≡◌, ◌≤◌, ℕ, take, All, Some, slice_get}
use Rattle.studio_config.specs.Studio.{Studio}
use Rattle.studio_session.specs.Cursor.{CursorState, IsReadyFor}
use Rattle.studio_session.specs.Play.{IsRunnableBy}
use Rattle.studio_session.specs.Report.{ArePulled}
use Rattle.studio_run.specs.Buffer.{PassesOn}
use Rattle.studio_run.specs.Listing.{stream_counts_text, texts_from}
use Rattle.studio_run.proofs.outputs.report.write_counts.Given as goal

-- the lines of the streams so far were written, and the other streams are as they were
abbrev pub invariant-loop-number : goal.invariant-loop-number
invariant-loop-number g l = record {
  ready : All (IsReadyFor (g.E.EventSource.events l.source)) l.cursors;
  rest : (j : ℕ) (cursor : CursorState) → l.number ≤ j → slice_get l.cursors j ≡ Some cursor → slice_get l.fn.cursors j ≡ Some cursor;
  wrote : (studio : Studio) → IsRunnableBy studio (g.E.EventSource.events l.source) → ArePulled studio (g.E.EventSource.events l.source) l.fn.cursors
      → PassesOn (g.W.Write.contents l.fn.writer) l.fn.text (g.W.Write.contents l.writer) l.text (texts_from (stream_counts_text studio.open_at (g.E.EventSource.events l.source)) 0 (take l.number studio.streams));
}
