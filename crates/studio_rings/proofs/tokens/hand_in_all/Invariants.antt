use Rattle.std.proofs.Common.{◌≡◌, length, ◌++◌}
use Rattle.std.specs.Vec.Iter.{into_iter_items}
use Rattle.studio_rings.specs.StreamTokens.{HaveTokens}
use Rattle.studio_rings.proofs.tokens.hand_in_all.Given as goal

abbrev pub invariant-loop-done : goal.invariant-loop-done
invariant-loop-done l = record {
  place : l.stream ≡ length l.yielded;
  all : l.fn.dones.items ≡ l.yielded ++ into_iter_items l.done-iterator;
  tokens : HaveTokens l.yielded l.initial.end.sides.items l.end.sides.items;
  mixer : l.end.mixer ≡ l.initial.end.mixer;
}
