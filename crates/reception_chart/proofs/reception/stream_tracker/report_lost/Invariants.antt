use Rattle.studio_session.specs.Cursor.{IsSameCursor, way_left}
use Rattle.reception_chart.proofs.reception.stream_tracker.report_lost.Given as goal

-- some marks were returned
abbrev pub invariant-marks : goal.invariant-marks
invariant-marks g l = record {
  kept : IsSameCursor l.fn.cursor l.cursor;
}

abbrev pub decreases-marks : goal.decreases-marks
decreases-marks g l = way_left l.cursor
