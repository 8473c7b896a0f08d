use Rattle.std.proofs.Common.{◌≡◌, None, replicate, vec_capacity, ◌≤◌}
use Rattle.path_merge.proofs.slot_window.SlotWindow.new.Given as goal

abbrev pub invariant-loop : goal.invariant-loop
invariant-loop l = record {
  empty : l.slots.items ≡ replicate l.counter None;
  space : l.width ≤ vec_capacity l.slots;
}
