use Rattle.std.proofs.Common.{◌≡◌}
use Rattle.reception_chart.proofs.reception.stream_tracker.track_stream.Given as goal

-- this many events were taken, and their marks returned
abbrev pub invariant-loop-place : goal.invariant-loop-place
invariant-loop-place g l = record {
  taken : l.fn.tracker.cursor.place ≡ 0 → l.tracker.cursor.place ≡ l.place;
}
