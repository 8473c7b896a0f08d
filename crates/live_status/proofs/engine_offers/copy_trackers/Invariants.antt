use Rattle.live_status.specs.EngineOffers.{IsNewTracker}
use Rattle.live_status.proofs.Each.{IsBegun}
use Rattle.live_status.proofs.engine_offers.copy_trackers.Given as goal

abbrev pub invariant-loop-stream : goal.invariant-loop-stream
invariant-loop-stream l = IsBegun IsNewTracker l.stream-index l.streams l.trackers.items
