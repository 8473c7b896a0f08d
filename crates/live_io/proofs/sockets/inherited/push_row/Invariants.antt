use Rattle.std.proofs.Common.{◌≡◌, ◌++◌}
use Rattle.live_io.specs.Inherited.{row_descriptors}
use Rattle.live_io.proofs.sockets.inherited.push_row.Given as goal

-- the descriptors of the paths so far were put behind those that there were
abbrev pub invariant-loop-path : goal.invariant-loop-path
invariant-loop-path l = l.found.items ≡ l.initial.found.items ++ row_descriptors l.rows l.number l.path
