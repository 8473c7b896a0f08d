use Rattle.std.proofs.Common.{◌≡◌, ◌<◌, refl, sym, ap, subst, arith, ◌∙◌}
use Rattle.reception_chart.specs.declared.reception.axis.Axis.{Axis}
use Rattle.reception_chart.specs.Bins.{count_in, lost_events}
use Rattle.reception_chart.proofs.LostSlotsLemmas.{counted_all, counted_none, counted_step}
use Rattle.reception_chart.proofs.reception.bins.Bins.add_lost.Goals as goal

pub loop-bin-init : goal.loop-bin-init
loop-bin-init c = record {
  axis = refl;
  counted = λ events short counted. counted_none c.args.self.now events (lost_events c.args.slots.now.first c.args.slots.now.frames c.args.slots.now.count) counted;
}

pub add_lost_in-requires : goal.add_lost_in-requires
add_lost_in-requires c =
    let same = c.loop-bin.invariant.axis in
    let inside : c.loop-bin.bin < c.args.self.now.axis.bins = subst (λ (a : Axis). c.loop-bin.bin < a.bins) c.axis-axis.ensures c.loop-bin-test.true in
    record { bin = subst (λ (a : Axis). c.loop-bin.bin < a.bins) (sym same) inside }

pub loop-bin-preserved : goal.loop-bin-preserved
loop-bin-preserved c =
    let inside : c.loop-bin.bin < c.args.self.now.axis.bins = subst (λ (a : Axis). c.loop-bin.bin < a.bins) c.axis-axis.ensures c.loop-bin-test.true in
    let number : c.in_bin.result ≡ count_in c.args.self.now.axis (lost_events c.args.slots.now.first c.args.slots.now.frames c.args.slots.now.count) c.loop-bin.bin 6
    = c.in_bin.ensures ∙ ap (λ a. count_in a (lost_events c.args.slots.now.first c.args.slots.now.frames c.args.slots.now.count) c.loop-bin.bin 6) c.axis-axis.ensures in
    record {
      axis = c.add_lost_in.ensures.axis ∙ c.loop-bin.invariant.axis;
      counted = λ events short counted. counted_step c.args.self.now.axis c.loop-bin.self.counts c.add_lost_in.new.self.counts events c.args.slots.now.first c.args.slots.now.frames c.args.slots.now.count c.loop-bin.bin c.in_bin.result
          (c.loop-bin.invariant.counted events short counted) inside number short c.add_lost_in.ensures.here c.add_lost_in.ensures.others;
    }

pub returns-clause-counted : goal.returns-clause-counted
returns-clause-counted c = λ events short counted.
    let all = ap (λ (a : Axis). a.bins) c.axis-axis.ensures in
    counted_all c.loop-bin.self c.args.self.now.axis events (lost_events c.args.slots.now.first c.args.slots.now.frames c.args.slots.now.count) c.loop-bin.bin c.loop-bin.invariant.axis
    (omega (arith, all, c.loop-bin-test.false)) (c.loop-bin.invariant.counted events short counted)

pub returns-clause-axis : goal.returns-clause-axis
returns-clause-axis c = c.loop-bin.invariant.axis
