use Rattle.std.proofs.Common.{◌≡◌, ◌++◌, drop}
use Rattle.status_page.specs.Metrics.{output_samples}
use Rattle.status_page.proofs.page.metrics.push_output_samples.Given as goal

abbrev pub invariant-loop-number : goal.invariant-loop-number
invariant-loop-number l = l.text.items ++ output_samples l.field l.number (drop l.number l.outputs) ≡ l.initial.text.items ++ output_samples l.field 0 l.outputs
