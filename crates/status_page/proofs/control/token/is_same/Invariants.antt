use Rattle.std.proofs.Common.{◌≡◌, ◌&&◌, bytes_eq, drop}
use Rattle.status_page.proofs.control.token.is_same.Given as goal

abbrev pub invariant-loop-place : goal.invariant-loop-place
invariant-loop-place l = (l.same && bytes_eq (drop l.place l.given) (drop l.place l.token)) ≡ bytes_eq l.given l.token
