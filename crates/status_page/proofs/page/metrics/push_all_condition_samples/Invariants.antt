use Rattle.std.proofs.Common.{◌≡◌, ◌++◌, drop}
use Rattle.status_page.specs.Metrics.{all_condition_samples}
use Rattle.status_page.proofs.page.metrics.push_all_condition_samples.Given as goal

abbrev pub invariant-loop-number : goal.invariant-loop-number
invariant-loop-number l = l.text.items ++ all_condition_samples l.conditions l.number (drop l.number l.streams) ≡ l.initial.text.items ++ all_condition_samples l.conditions 0 l.streams
