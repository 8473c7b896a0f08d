use Rattle.std.proofs.Common.{◌≡◌, ◌*◌, take, true}
use Rattle.std.specs.Prelude.{bytes_eq}
use Rattle.path_merge.proofs.payload_eq.are_long_same.Given as goal

abbrev pub invariant-loop-run : goal.invariant-loop-run
invariant-loop-run l = bytes_eq (take (384 * l.run) l.a) (take (384 * l.run) l.b) ≡ true
