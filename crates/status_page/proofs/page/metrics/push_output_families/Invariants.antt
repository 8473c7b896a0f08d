use Rattle.std.proofs.Common.{◌≡◌, ◌++◌, drop}
use Rattle.status_page.specs.Metrics.{output_families}
use Rattle.status_page.proofs.page.metrics.push_output_families.Given as goal

abbrev pub invariant-loop-field : goal.invariant-loop-field
invariant-loop-field l = l.text.items ++ output_families (drop l.field-index l.fields) l.outputs ≡ l.initial.text.items ++ output_families l.fields l.outputs
