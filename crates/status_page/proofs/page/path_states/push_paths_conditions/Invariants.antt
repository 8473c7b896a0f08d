use Rattle.std.proofs.Common.{◌≡◌, ◌++◌, drop}
use Rattle.status_page.specs.Metrics.{paths_condition_samples}
use Rattle.status_page.proofs.page.path_states.push_paths_conditions.Given as goal

abbrev pub invariant-loop-place : goal.invariant-loop-place
invariant-loop-place l = l.text.items ++ paths_condition_samples l.number l.stream l.place (drop l.place l.states) ≡ l.initial.text.items ++ paths_condition_samples l.number l.stream 0 l.states
