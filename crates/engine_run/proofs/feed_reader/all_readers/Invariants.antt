use Rattle.std.proofs.Common.{◌≡◌, ◌+◌, length, map, take, true}
use Rattle.std.specs.Vec.Iter.{into_iter_items}
use Rattle.engine_run.specs.Grouping.{grouped, path_total}
use Rattle.engine_run.specs.Intake.{new_reader}
use Rattle.engine_run.proofs.GroupLemmas.{rest_of}
use Rattle.engine_run.proofs.feed_reader.all_readers.Given as goal

-- the feeds of the streams so far have readers, and the feeds that are left are those of the other streams
abbrev pub invariant-loop-stream : goal.invariant-loop-stream
invariant-loop-stream g l = record {
  begun : map (λ own. own.items) l.readers.items ≡ grouped (take l.stream l.specs) (map new_reader l.fn.feeds.items);
  left : into_iter_items l.feeds ≡ rest_of (take l.stream l.specs) l.fn.feeds.items;
  enough : l.enough ≡ true → path_total (take l.stream l.specs) + length (into_iter_items l.feeds) ≡ length l.fn.feeds.items;
}
