use Rattle.live_status.specs.EngineStatus.{FillsEngineStreamAt}
use Rattle.live_status.proofs.Each.{IsUpTo}
use Rattle.live_status.proofs.engine_status.fill_streams.Given as goal

abbrev pub invariant-loop-number : goal.invariant-loop-number
invariant-loop-number l = IsUpTo (FillsEngineStreamAt l.engine l.trackers) l.number l.initial.streams l.streams
