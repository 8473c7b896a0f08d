use Rattle.std.proofs.Common.{inl}
use Rattle.live_status.proofs.SnapshotLines.{wrote-none}
use Rattle.live_status.proofs.count_lines.CountLines.write_due.Goals as goal

pub returns-then-self-eq9223372036854775807-clause-written : goal.returns-then-self-eq9223372036854775807-clause-written
returns-then-self-eq9223372036854775807-clause-written g c = inl (wrote-none _ _)
