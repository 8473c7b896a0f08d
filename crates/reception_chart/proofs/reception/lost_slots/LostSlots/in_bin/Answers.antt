use Rattle.std.proofs.Common.{arith}
use Rattle.reception_chart.proofs.LostSlotsLemmas.{in_bin_is}
use Rattle.reception_chart.proofs.reception.lost_slots.LostSlots.in_bin.Goals as goal

pub overflow_sub-result : goal.overflow_sub-result
overflow_sub-result c =
    let more = in_bin_is c.args.axis.now c.args.self.now.first c.args.self.now.frames c.args.self.now.count c.args.bin in
    omega (arith, more, c.before-2.ensures, c.before-3.ensures)

pub returns : goal.returns
returns c =
    let more = in_bin_is c.args.axis.now c.args.self.now.first c.args.self.now.frames c.args.self.now.count c.args.bin in
    omega (arith, more, c.before-2.ensures, c.before-3.ensures)
