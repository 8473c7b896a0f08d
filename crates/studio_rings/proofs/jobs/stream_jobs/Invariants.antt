use Rattle.std.proofs.Common.{◌≡◌, ◌+◌, length, vec_len, vec_capacity}
use Rattle.std.specs.Vec.Iter.{into_iter_items, into_iter_len}
use Rattle.studio_rings.specs.Jobs.{HaveCapacity}
use Rattle.studio_rings.proofs.JobLemmas.{AreSomeFresh, MakesJobs}
use Rattle.studio_rings.proofs.jobs.stream_jobs.Given as goal

abbrev pub invariant-loop-end : goal.invariant-loop-end
invariant-loop-end g l = record {
  made : MakesJobs (into_iter_items l.initial.paths) (into_iter_items l.initial.feeds) (into_iter_items l.initial.clocks) (into_iter_items l.initial.end-iterator) l.jobs.items (into_iter_items l.paths) (into_iter_items l.feeds) (into_iter_items l.clocks) (into_iter_items l.end-iterator);
  space : HaveCapacity l.jobs.items;
  fresh : AreSomeFresh (into_iter_items l.paths) (into_iter_items l.end-iterator);
  ends_len : into_iter_len l.end-iterator ≡ length (into_iter_items l.end-iterator);
  paths_len : into_iter_len l.paths ≡ length (into_iter_items l.paths);
  feeds_len : into_iter_len l.feeds ≡ length (into_iter_items l.feeds);
  feeds_too : into_iter_len l.feeds ≡ into_iter_len l.paths;
  clocks_len : into_iter_len l.clocks ≡ length (into_iter_items l.clocks);
  clocks : into_iter_len l.clocks ≡ into_iter_len l.end-iterator;
  count : vec_len l.jobs + into_iter_len l.end-iterator ≡ into_iter_len l.initial.end-iterator;
  places : vec_capacity l.jobs ≡ vec_capacity l.initial.jobs;
}
