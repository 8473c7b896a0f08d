use Rattle.std.proofs.Common.{◌≡◌, ◌++◌, drop}
use Rattle.status_page.specs.Metrics.{run_output_families}
use Rattle.status_page.proofs.page.metrics.push_run_output_families.Given as goal

abbrev pub invariant-loop-kind : goal.invariant-loop-kind
invariant-loop-kind l = l.text.items ++ run_output_families (drop l.kind-index l.kinds) l.states ≡ l.initial.text.items ++ run_output_families l.kinds l.states
