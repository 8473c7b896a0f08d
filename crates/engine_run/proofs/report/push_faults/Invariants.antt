use Rattle.std.proofs.Common.{◌≡◌, ◌++◌, map}
use Rattle.std.specs.Vec.Iter.{into_iter_items}
use Rattle.engine_run.specs.Intake.{fault_number}
use Rattle.engine_run.proofs.report.push_faults.Given as goal

-- the numbers of faults so far and those that are left are those of all feeds
abbrev pub invariant-loop-reader : goal.invariant-loop-reader
invariant-loop-reader g l = l.faults.items ++ map fault_number (into_iter_items l.reader-iterator) ≡ l.initial.faults.items ++ map fault_number l.fn.own.items
