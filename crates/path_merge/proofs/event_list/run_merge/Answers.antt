use Rattle.std.proofs.lemmas.Grind.{common_steps}
use Rattle.std.proofs.Common.{false, Result, Ok, Err, OnOk, sym, ◌∙◌, w64, arith}
use Rattle.std.proofs.lemmas.Int.{to_z-of_z}
use Rattle.path_merge.proofs.RunLemmas.{no_fault-well_timed}
use Rattle.path_merge.proofs.event_list.run_merge.Goals as goal

pub marks_given-requires-clause-well_timed : goal.marks_given-requires-clause-well_timed
marks_given-requires-clause-well_timed c = no_fault-well_timed _ false c.args.events.now (sym c.first_fault.ensures ∙ c.in_default.is)

-- a fact that needs no result
on_ok : {T E : Type 0} (r : Result T E) (P : Type 0) → P → OnOk r P
on_ok (Ok x) P p = p
on_ok (Err e) P p = tt

pub returns-clause-well_timed : goal.returns-clause-well_timed
returns-clause-well_timed c = on_ok c.map_err.result _ (rw (to_z-of_z w64 c.args.open_at c.ranges.open_at) at (no_fault-well_timed _ false c.args.events.now (sym c.first_fault.ensures ∙ c.in_default.is)))

pub returns-clause-marks : goal.returns-clause-marks
returns-clause-marks c = grind (arith, common_steps)

pub returns-clause-fault : goal.returns-clause-fault
returns-clause-fault c = grind (arith, common_steps)
