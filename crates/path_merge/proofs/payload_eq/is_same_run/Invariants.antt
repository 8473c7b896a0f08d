use Rattle.std.proofs.Common.{◌≡◌, ◌+◌, take}
use Rattle.std.specs.Prelude.{bytes_eq}
use Rattle.path_merge.proofs.payload_eq.is_same_run.Given as goal

abbrev pub invariant-loop-i : goal.invariant-loop-i
invariant-loop-i l = l.same ≡ bytes_eq (take (l.from + l.i) l.a) (take (l.from + l.i) l.b)
