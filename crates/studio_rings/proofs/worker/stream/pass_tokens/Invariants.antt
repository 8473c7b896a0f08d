use Rattle.std.proofs.Common.{◌≡◌, ◌+◌, ◌++◌, length, map, vec_len, vec_capacity}
use Rattle.std.specs.Vec.Iter.{into_iter_items, into_iter_len}
use Rattle.studio_rings.specs.Turns.{GoesOn}
use Rattle.studio_rings.specs.declared.jobs.PathResult.{PathResult}
use Rattle.studio_rings.proofs.HandLemmas.{AreHandedIn}
use Rattle.studio_rings.proofs.worker.stream.pass_tokens.Given as goal

-- the tokens of the results so far were passed to the stream
abbrev pub invariant-loop-result : goal.invariant-loop-result
invariant-loop-result g l = record {
  items : l.yielded ++ into_iter_items l.result-iterator ≡ into_iter_items l.initial.result-iterator;
  place : length l.yielded ≡ l.place;
  left : l.place + into_iter_len l.result-iterator ≡ into_iter_len l.initial.result-iterator;
  counts : l.counts.items ≡ map (λ (r : PathResult). r.counts) l.yielded;
  counted : vec_len l.counts ≡ l.place;
  space : vec_capacity l.counts ≡ vec_capacity l.initial.counts;
  faults : l.faults.items ≡ map (λ (r : PathResult). r.faults) l.yielded;
  faults_counted : vec_len l.faults ≡ l.place;
  fault_space : vec_capacity l.faults ≡ vec_capacity l.initial.faults;
  later : GoesOn g.C.Clock.told l.initial.stream l.stream;
  handed : AreHandedIn l.all l.yielded l.initial.stream.end.sides.items l.stream.end.sides.items;
}
