use Rattle.std.proofs.Common.{◌≡◌, ◌++◌, drop}
use Rattle.status_page.specs.Metrics.{all_path_condition_samples}
use Rattle.status_page.proofs.page.path_states.push_all_path_conditions.Given as goal

abbrev pub invariant-loop-number : goal.invariant-loop-number
invariant-loop-number l = l.text.items ++ all_path_condition_samples l.number (drop l.number l.streams) ≡ l.initial.text.items ++ all_path_condition_samples 0 l.streams
