use Rattle.std.proofs.Common.{◌≡◌, ◌+◌, ◌++◌, vec_len, vec_capacity}
use Rattle.std.specs.Vec.Iter.{into_iter_items, into_iter_len}
use Rattle.studio_rings.specs.Jobs.{feeds_in}
use Rattle.studio_rings.specs.StreamWorkers.{ends_of}
use Rattle.studio_rings.proofs.jobs.next_paths.Given as goal

abbrev pub invariant-loop : goal.invariant-loop
invariant-loop g l = record {
  ends : into_iter_items l.initial.ends ≡ ends_of l.own.items ++ into_iter_items l.ends;
  feeds : into_iter_items l.initial.feeds ≡ feeds_in l.own.items ++ into_iter_items l.feeds;
  count : vec_len l.own ≡ l.counter;
  ends_left : into_iter_len l.ends + l.counter ≡ into_iter_len l.initial.ends;
  feeds_left : into_iter_len l.feeds + l.counter ≡ into_iter_len l.initial.feeds;
  space : vec_capacity l.own ≡ vec_capacity l.initial.own;
}
