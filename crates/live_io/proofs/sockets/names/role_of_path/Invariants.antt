use Rattle.std.proofs.Common.{◌≢◌, ◌<◌, ℕ}
use Rattle.live_io.specs.Names.{path_name}
use Rattle.live_io.proofs.sockets.names.role_of_path.Given as goal

-- no path of the streams so far has the name
abbrev pub invariant-loop-stream : goal.invariant-loop-stream
invariant-loop-stream l = (stream path : ℕ) → stream < l.stream → path < 4 → l.name ≢ path_name stream path
