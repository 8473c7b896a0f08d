use Rattle.std.proofs.Common.{◌≡◌, ◌≤◌, ℕ, length, All, Some, slice_get}
use Rattle.rtp_stream.specs.declared.stream_spec.Stream.{Stream}
use Rattle.studio_config.specs.Studio.{Studio}
use Rattle.studio_session.specs.Cursor.{CursorState, IsReadyFor}
use Rattle.studio_session.specs.Play.{IsRunnableBy}
use Rattle.studio_session.specs.Report.{AreCountsOf, ArePulled}
use Rattle.rtp_stream.specs.declared.stream_counts.StreamCounts.{StreamCounts}
use Rattle.studio_session.proofs.stream_counts.all_counts.Given as goal

-- the streams so far were counted, and the others are as they were
abbrev pub invariant-loop-number : goal.invariant-loop-number
invariant-loop-number g l = record {
  ready : All (IsReadyFor (g.E.EventSource.events l.source)) l.cursors;
  count : length l.counts.items ≡ l.number;
  rest : (j : ℕ) (cursor : CursorState) → l.number ≤ j → slice_get l.cursors j ≡ Some cursor → slice_get l.fn.cursors j ≡ Some cursor;
  counted : (studio : Studio) → IsRunnableBy studio (g.E.EventSource.events l.source) → ArePulled studio (g.E.EventSource.events l.source) l.fn.cursors
      → (i : ℕ) (counts : StreamCounts) → slice_get l.counts.items i ≡ Some counts → (stream : Stream) → slice_get studio.streams i ≡ Some stream
      → AreCountsOf stream i studio.open_at (g.E.EventSource.events l.source) counts;
}
