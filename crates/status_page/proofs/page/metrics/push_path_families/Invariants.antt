use Rattle.std.proofs.Common.{◌≡◌, ◌++◌, drop}
use Rattle.status_page.specs.Metrics.{path_families}
use Rattle.status_page.proofs.page.metrics.push_path_families.Given as goal

abbrev pub invariant-loop-field : goal.invariant-loop-field
invariant-loop-field l = l.text.items ++ path_families (drop l.field-index l.fields) l.streams ≡ l.initial.text.items ++ path_families l.fields l.streams
