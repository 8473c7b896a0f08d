use Rattle.std.proofs.Common.{◌≡◌, ◌++◌}
use Rattle.std.specs.Vec.Iter.{into_iter_items}
use Rattle.engine_run.specs.Intake.{fault_numbers}
use Rattle.engine_run.proofs.report.all_faults.Given as goal

-- the numbers of faults of the streams so far and those of the streams that are left are those of all streams
abbrev pub invariant-loop-own : goal.invariant-loop-own
invariant-loop-own g l = l.faults.items ++ fault_numbers (into_iter_items l.own-iterator) ≡ fault_numbers l.fn.streams.items
