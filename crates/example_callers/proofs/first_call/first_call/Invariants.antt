use Rattle.path_merge.specs.Steps.{marks_left}
use Rattle.example_callers.proofs.first_call.first_call.Given as goal

-- the marks that are left
abbrev pub decreases-loop-mark : goal.decreases-loop-mark
decreases-loop-mark g l = marks_left l.merge
