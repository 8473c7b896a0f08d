use Rattle.std.proofs.Common.{◌≡◌, ◌++◌}
use Rattle.live_io.specs.Addresses.{row_addresses}
use Rattle.live_io.proofs.sockets.addresses.push_row.Given as goal

-- the addresses of the paths so far were put behind those that there were
abbrev pub invariant-loop-place : goal.invariant-loop-place
invariant-loop-place l = l.found.items ≡ l.initial.found.items ++ row_addresses l.networks l.number l.place
