use Rattle.std.proofs.Common.{inl}
use Rattle.live_status.proofs.SnapshotLines.{wrote-none}
use Rattle.live_status.proofs.publisher.StatusPublisher.write_lines.Goals as goal

pub returns-else-is_due-clause-lines : goal.returns-else-is_due-clause-lines
returns-else-is_due-clause-lines g c = inl (wrote-none _ _)

pub returns-in_default-clause-lines : goal.returns-in_default-clause-lines
returns-in_default-clause-lines g c = inl (wrote-none _ _)
