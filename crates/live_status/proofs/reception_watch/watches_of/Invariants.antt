use Rattle.live_status.specs.StreamWatch.{IsNewWatchAt}
use Rattle.live_status.proofs.Each.{IsBegun}
use Rattle.live_status.proofs.reception_watch.watches_of.Given as goal

abbrev pub invariant-loop-stream : goal.invariant-loop-stream
invariant-loop-stream l = IsBegun (IsNewWatchAt l.now) l.stream-index l.streams l.watches.items
