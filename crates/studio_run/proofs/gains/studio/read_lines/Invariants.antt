use Rattle.std.proofs.Common.{◌≡◌, ◌+◌, ◌≤◌, pos, length, Ok}
use Rattle.studio_run.specs.Trace.{lines_of}
use Rattle.studio_run.specs.GainsLines.{lines_said}
use Rattle.studio_run.proofs.gains.studio.read_lines.Given as goal

-- the lines so far lead to this schedule
abbrev pub invariant-loop-rest : goal.invariant-loop-rest
invariant-loop-rest l = record {
  said : lines_said 1 (Ok (l.fn.schedule, pos 0)) (lines_of l.fn.text) ≡ lines_said (l.number + 1) (Ok (l.planned, l.last)) (lines_of l.rest);
  first : l.planned.first ≡ l.fn.schedule.first;
  few : l.number + length l.rest ≤ length l.fn.text;
}

abbrev pub decreases-loop-rest : goal.decreases-loop-rest
decreases-loop-rest l = length l.rest
