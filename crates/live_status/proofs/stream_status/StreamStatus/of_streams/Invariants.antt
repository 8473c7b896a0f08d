use Rattle.live_status.specs.StreamStatus.{IsNewStatusAt}
use Rattle.live_status.proofs.Each.{IsBegun}
use Rattle.live_status.proofs.stream_status.StreamStatus.of_streams.Given as goal

abbrev pub invariant-loop-number : goal.invariant-loop-number
invariant-loop-number l = IsBegun (IsNewStatusAt l.names l.now) l.number l.streams l.statuses.items
