use Rattle.std.proofs.Common.{ℕ, List, ◌<ℤ◌}
use Rattle.studio_config.specs.Studio.{Studio}
use Rattle.studio_session.specs.Event.{TraceEvent}
use Rattle.studio_engine.specs.Cursors.{all_at}
use Rattle.studio_engine.specs.Deadline.{IsIdle, IsUnreadyBefore}
use Rattle.studio_engine.proofs.deadline.latest_reading.Given as goal

-- the reading so far is after the time, and the block is not ready before it
abbrev pub invariant-loop-stream : goal.invariant-loop-stream
invariant-loop-stream l = record {
  later : l.fn.time <ℤ l.reading;
  before : (studio : Studio) (events : List TraceEvent) (next count : ℕ) → IsIdle studio events l.fn.mixer (all_at count l.fn.cursors) l.fn.time next → IsUnreadyBefore studio events next l.reading;
}
