use Rattle.std.proofs.Common.{ℕ, ℤ, List}
use Rattle.rtp_stream.specs.declared.stream_spec.Stream.{Stream}
use Rattle.studio_session.specs.Event.{TraceEvent}
use Rattle.studio_session.specs.Cursor.{IsRunnable, IsSameCursor, way_left}
use Rattle.studio_session.specs.Report.{HasPulledSome}
use Rattle.studio_session.proofs.finish.drop_marks.Given as goal

-- some marks were returned
abbrev pub invariant-marks : goal.invariant-marks
invariant-marks l = record {
  stands : (stream : Stream) (number : ℕ) (open_at : ℤ) (events : List TraceEvent) → IsRunnable stream number open_at events
      → HasPulledSome stream number open_at events l.fn.cursor → HasPulledSome stream number open_at events l.cursor;
  kept : IsSameCursor l.fn.cursor l.cursor;
}

abbrev pub decreases-marks : goal.decreases-marks
decreases-marks l = way_left l.cursor
