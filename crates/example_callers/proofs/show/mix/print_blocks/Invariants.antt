use Rattle.std.proofs.Common.{◌≡◌, length}
use Rattle.example_callers.proofs.show.mix.print_blocks.Given as goal

-- before each call the mixer has two streams
abbrev pub invariant-loop : goal.invariant-loop
invariant-loop g l = record {
  streams : length l.mixer.lanes ≡ 2;
}
