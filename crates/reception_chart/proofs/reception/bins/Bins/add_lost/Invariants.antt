use Rattle.std.proofs.Common.{◌≡◌, ◌+◌, ◌^◌, ◌<◌, List, length}
use Rattle.reception_chart.specs.Bins.{BinEvent, HasCounted, lost_events}
use Rattle.reception_chart.proofs.LostSlotsLemmas.{IsCountedTo}
use Rattle.reception_chart.proofs.reception.bins.Bins.add_lost.Given as goal

-- the slots of the bins so far were counted
abbrev pub invariant-loop-bin : goal.invariant-loop-bin
invariant-loop-bin l = record {
  axis : l.self.axis ≡ l.fn.self.axis;
  counted : (events : List BinEvent) → length events + l.slots.count < 2 ^ 64 → HasCounted l.fn.self events
      → IsCountedTo l.fn.self.axis l.self.counts events (lost_events l.slots.first l.slots.frames l.slots.count) l.bin;
}
