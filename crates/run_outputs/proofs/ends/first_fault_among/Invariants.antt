use Rattle.std.proofs.Common.{◌≡◌, drop}
use Rattle.run_outputs.specs.Ends.{first_fault_in}
use Rattle.run_outputs.proofs.ends.first_fault_among.Given as goal

abbrev pub invariant-loop-kind : goal.invariant-loop-kind
invariant-loop-kind l = first_fault_in (drop l.kind-index l.kinds) l.ends l.states ≡ first_fault_in l.kinds l.ends l.states
