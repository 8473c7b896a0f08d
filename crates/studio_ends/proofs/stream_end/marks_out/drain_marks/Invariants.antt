use Rattle.std.proofs.Common.{◌≡◌, ◌+◌, length}
use Rattle.rtrb.specs.Ring.{sent}
use Rattle.studio_ends.specs.StreamTurns.{DrainsMarks}
use Rattle.studio_ends.proofs.stream_end.marks_out.drain_marks.Given as goal

abbrev pub invariant-loop : goal.invariant-loop
invariant-loop l = DrainsMarks l.initial.marks l.initial.merge l.marks l.merge × (length (sent l.marks) ≡ length (sent l.initial.marks) + l.counter)
