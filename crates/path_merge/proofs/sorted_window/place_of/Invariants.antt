use Rattle.std.proofs.Common.{take}
use Rattle.path_merge.specs.SortedWindow.{AllBelow}
use Rattle.path_merge.proofs.sorted_window.place_of.Given as goal

abbrev pub invariant-loop-i : goal.invariant-loop-i
invariant-loop-i l = AllBelow l.number (take l.i l.packets)
