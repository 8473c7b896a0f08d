use Rattle.std.proofs.Common.{◌-◌, ◌≤◌}
use Rattle.studio_ends.proofs.MarkLemmas.{Pushing}
use Rattle.studio_ends.proofs.stream_end.marks_out.push_marks.Given as goal

abbrev pub invariant-loop-count : goal.invariant-loop-count
invariant-loop-count l = (l.count ≤ 64) × Pushing l.initial.marks l.initial.merge l.fn.now l.marks l.merge l.count

abbrev pub decreases-loop-count : goal.decreases-loop-count
decreases-loop-count l = 64 - l.count
