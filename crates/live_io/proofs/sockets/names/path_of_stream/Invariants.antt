use Rattle.std.proofs.Common.{◌≢◌, ◌<◌, ℕ}
use Rattle.live_io.specs.Names.{path_name}
use Rattle.live_io.proofs.sockets.names.path_of_stream.Given as goal

-- no path so far has the name
abbrev pub invariant-loop-path : goal.invariant-loop-path
invariant-loop-path l = (path : ℕ) → path < l.path → l.name ≢ path_name l.stream path
