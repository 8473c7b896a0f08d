use Rattle.std.proofs.Common.{◌≡◌, ℕ, List, length, Some, slice_get}
use Rattle.rtp_stream.specs.declared.stream_counts.StreamCounts.{StreamCounts}
use Rattle.rtp_stream.specs.declared.stream_spec.Stream.{Stream}
use Rattle.studio_config.specs.Studio.{Studio}
use Rattle.studio_session.specs.Event.{TraceEvent}
use Rattle.studio_session.specs.Report.{AreCountsOf}
use Rattle.studio_engine.specs.Engine.{HasAllMarks}
use Rattle.studio_engine.specs.Session.{HasSession}
use Rattle.engine_run.proofs.report.all_counts.Given as goal

-- the counts of the streams so far were copied
abbrev pub invariant-loop-stream : goal.invariant-loop-stream
invariant-loop-stream l = record {
  count : length l.counts.items ≡ l.stream;
  counted : (studio : Studio) (events : List TraceEvent) (datagrams : List (List ℕ)) → HasSession studio l.engine events datagrams → HasAllMarks l.engine → l.specs ≡ studio.streams
      → (i : ℕ) (counts : StreamCounts) → slice_get l.counts.items i ≡ Some counts → (stream : Stream) → slice_get studio.streams i ≡ Some stream
      → AreCountsOf stream i studio.open_at events counts;
}
