use Rattle.std.proofs.Common.{◌≡◌, ◌++◌, drop}
use Rattle.status_page.specs.Metrics.{known_condition_samples}
use Rattle.status_page.proofs.page.path_states.push_known_conditions.Given as goal

abbrev pub invariant-loop-condition : goal.invariant-loop-condition
invariant-loop-condition l = l.text.items ++ known_condition_samples l.number l.stream l.path l.present (drop l.condition-index l.conditions) ≡ l.initial.text.items ++ known_condition_samples l.number l.stream l.path l.present l.conditions
