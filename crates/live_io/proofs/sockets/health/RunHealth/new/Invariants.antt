use Rattle.std.proofs.Common.{◌≡◌, vec_len}
use Rattle.live_io.proofs.sockets.health.RunHealth.new.Given as goal

abbrev pub invariant-loop : goal.invariant-loop
invariant-loop l = vec_len l.paths ≡ l.counter
