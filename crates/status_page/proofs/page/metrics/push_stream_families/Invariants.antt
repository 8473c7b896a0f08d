use Rattle.std.proofs.Common.{◌≡◌, ◌++◌, drop}
use Rattle.status_page.specs.Metrics.{stream_families}
use Rattle.status_page.proofs.page.metrics.push_stream_families.Given as goal

abbrev pub invariant-loop-count : goal.invariant-loop-count
invariant-loop-count l = l.text.items ++ stream_families (drop l.count-index l.counts) l.streams ≡ l.initial.text.items ++ stream_families l.counts l.streams
