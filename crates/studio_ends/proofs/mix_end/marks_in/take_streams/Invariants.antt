use Rattle.std.proofs.Common.{◌≡◌, ◌*◌, ◌≤◌, vec_len}
use Rattle.studio_ends.proofs.MixTurnLemmas.{TakesThrough}
use Rattle.studio_ends.proofs.mix_end.marks_in.take_streams.Given as goal

abbrev pub invariant-loop-stream : goal.invariant-loop-stream
invariant-loop-stream l = record {
  len : vec_len l.sides ≡ vec_len l.initial.sides;
  some : l.taken ≤ 64 * l.stream;
  odd : l.strange ≤ 64 * l.stream;
  took : TakesThrough l.initial.sides.items l.sides.items l.initial.mixer l.mixer l.stream l.taken l.strange;
}
