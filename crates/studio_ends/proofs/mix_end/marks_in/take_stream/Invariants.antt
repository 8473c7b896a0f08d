use Rattle.std.proofs.Common.{◌-◌, ◌≤◌}
use Rattle.studio_ends.specs.MarksIn.{TakesMarks}
use Rattle.studio_ends.proofs.mix_end.marks_in.take_stream.Given as goal

abbrev pub invariant-loop-taken : goal.invariant-loop-taken
invariant-loop-taken g l = (l.taken ≤ 64) × (l.strange ≤ l.taken) × TakesMarks l.initial.side l.side l.initial.mixer l.mixer l.stream l.taken l.strange

abbrev pub decreases-loop-taken : goal.decreases-loop-taken
decreases-loop-taken g l = 64 - l.taken
