use Rattle.std.proofs.Common.{◌≡◌, ◌++◌, ℕ, List}
use Rattle.live_io.specs.Ports.{AreSaid, row_needs}
use Rattle.live_io.proofs.sockets.ports.push_row.Given as goal

-- the ports of the paths so far were put behind those that there were
abbrev pub invariant-loop-place : goal.invariant-loop-place
invariant-loop-place l = (own : List ℕ) × (l.found.items ≡ l.initial.found.items ++ own) × AreSaid (row_needs l.ports.paths l.number l.place) own
