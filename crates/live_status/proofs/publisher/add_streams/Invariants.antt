use Rattle.std.proofs.Common.{◌≡◌, ◌≤◌, length}
use Rattle.live_status.specs.StreamStatus.{IsBlankOf}
use Rattle.live_status.proofs.Each.{IsBegun}
use Rattle.live_status.proofs.publisher.add_streams.Given as goal

abbrev pub invariant-loop-status : goal.invariant-loop-status
invariant-loop-status l = (length l.statuses ≤ 16 → IsBegun IsBlankOf l.status-index l.statuses l.snapshot.streams.items) × (l.snapshot.outputs ≡ l.initial.snapshot.outputs)
