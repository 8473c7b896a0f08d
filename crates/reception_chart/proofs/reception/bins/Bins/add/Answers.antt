use Rattle.std.proofs.Common.{w64, rules, ap, ◌∙◌}
use Rattle.std.proofs.lemmas.Int.{to_z-of_z}
use Rattle.reception_chart.specs.Bins.{bin_of}
use Rattle.reception_chart.proofs.BinsLemmas.{added}
use Rattle.reception_chart.proofs.reception.bins.Bins.add.Goals as goal

pub returns-clause-counted : goal.returns-clause-counted
returns-clause-counted c = λ events short counted.
    let axis = c.self.inside.axis in
    added c.args.self.now axis c.self.inside.counts.items events (record { time = c.args.time; kind = c.args.kind }) c.bin_of.result c.row.result c.index.result.now
    c.saturating_add.result c.self.view_is counted short (c.bin_of.ensures.value ∙ ap (bin_of axis) (to_z-of_z w64 c.args.time c.ranges.time)) c.bin_of.ensures.within
    c.row.ensures.value c.row.ensures.within (search rules) c.index.ensures c.saturating_add.ensures
