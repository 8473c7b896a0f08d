use Rattle.std.proofs.Common.{◌<◌, min, ap, arith, ◌∙◌}
use Rattle.std.specs.Int.{div_ceil}
use Rattle.reception_chart.proofs.LostSlotsLemmas.{before_end, before_first, before_inner}
use Rattle.reception_chart.proofs.reception.lost_slots.LostSlots.before.Goals as goal

pub returns-then-bin-eq0 : goal.returns-then-bin-eq0
returns-then-bin-eq0 c = before_first c.args.axis.now c.args.self.now.first c.args.self.now.frames c.args.self.now.count c.args.bin c.if-bin-eq0.true

pub returns-then-bin-axis : goal.returns-then-bin-axis
returns-then-bin-axis c = before_end c.args.axis.now c.args.self.now.first c.args.self.now.frames c.args.self.now.count c.args.bin c.if-bin-axis.true

pub returns : goal.returns
returns c =
    let some : 0 < c.args.bin = omega (arith, c.if-bin-eq0.false) in
    let inner : c.args.bin < c.args.axis.now.bins = omega (arith, c.if-bin-axis.false, c.requires) in
    c.min.ensures
    ∙ ap (λ n. min c.div_ceil-slots.result n) c.from-2.ensures
    ∙ ap (λ n. min n c.args.self.now.count) (c.div_ceil-slots.ensures ∙ ap (div_ceil c.lead.result) c.from.ensures)
    ∙ before_inner c.args.axis.now c.args.bin some inner c.args.self.now.first c.args.self.now.frames c.args.self.now.count c.lead.result c.args.self.now.some c.lead.ensures
