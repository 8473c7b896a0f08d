use Rattle.std.proofs.Common.{◌≡◌, ◌+◌, ◌≤◌, ◌++◌, length, vec_len, vec_capacity}
use Rattle.std.specs.Vec.Iter.{into_iter_items, into_iter_len}
use Rattle.studio_rings.specs.StreamResults.{counts_in, dones_in, faults_in}
use Rattle.studio_rings.proofs.results.collect_results.Given as goal

abbrev pub invariant-loop-result : goal.invariant-loop-result
invariant-loop-result l = record {
  items : l.yielded ++ into_iter_items l.result-iterator ≡ into_iter_items l.initial.result-iterator;
  left : length l.yielded + into_iter_len l.result-iterator ≡ into_iter_len l.initial.result-iterator;
  dones : l.dones.items ≡ dones_in l.yielded;
  done_count : vec_len l.dones ≡ length l.yielded;
  done_space : vec_capacity l.dones ≡ vec_capacity l.initial.dones;
  streams : l.streams.items ≡ counts_in l.yielded;
  stream_count : vec_len l.streams ≡ length l.yielded;
  stream_space : vec_capacity l.streams ≡ vec_capacity l.initial.streams;
  faults : l.feed_faults.items ≡ faults_in l.yielded;
  fault_count : vec_len l.feed_faults ≡ length (faults_in l.yielded);
  fault_space : vec_capacity l.initial.feed_faults ≤ vec_capacity l.feed_faults;
}
