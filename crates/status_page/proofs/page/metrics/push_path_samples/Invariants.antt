use Rattle.std.proofs.Common.{◌≡◌, ◌++◌, drop}
use Rattle.status_page.specs.Metrics.{path_samples}
use Rattle.status_page.proofs.page.metrics.push_path_samples.Given as goal

abbrev pub invariant-loop-place : goal.invariant-loop-place
invariant-loop-place l = l.text.items ++ path_samples l.field l.number l.stream l.place (drop l.place l.states) ≡ l.initial.text.items ++ path_samples l.field l.number l.stream 0 l.states
