use Rattle.std.proofs.Common.{◌≡◌, ◌++◌, drop}
use Rattle.status_page.specs.Metrics.{condition_samples}
use Rattle.status_page.proofs.page.metrics.push_condition_samples.Given as goal

abbrev pub invariant-loop-condition : goal.invariant-loop-condition
invariant-loop-condition l = l.text.items ++ condition_samples l.number l.stream (drop l.condition-index l.conditions) ≡ l.initial.text.items ++ condition_samples l.number l.stream l.conditions
