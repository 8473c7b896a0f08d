use Rattle.std.proofs.Common.{◌≡◌, drop, map, take}
use Rattle.std.specs.Vec.Iter.{into_iter_items}
use Rattle.engine_run.specs.Intake.{new_reader}
use Rattle.engine_run.proofs.feed_reader.next_readers.Given as goal

-- the feeds so far have readers, and the other feeds are left
abbrev pub invariant-loop : goal.invariant-loop
invariant-loop g l = record {
  taken : l.own.items ≡ map new_reader (take l.counter (into_iter_items l.initial.feeds));
  left : into_iter_items l.feeds ≡ drop l.counter (into_iter_items l.initial.feeds);
}
