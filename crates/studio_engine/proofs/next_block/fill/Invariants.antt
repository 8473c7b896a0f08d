use Rattle.std.proofs.Common.{◌≡◌, ℕ, List, length}
use Rattle.studio_config.specs.Studio.{Studio}
use Rattle.studio_mix.specs.LaneCapacity.{capacities_of}
use Rattle.studio_session.specs.Event.{TraceEvent}
use Rattle.studio_session.specs.PushedEvents.{HaveTaken}
use Rattle.studio_session.specs.Play.{HasFilled, HasPlayed, IsRunnableBy}
use Rattle.studio_engine.specs.Engine.{AreIdle, HaveCome}
use Rattle.studio_engine.proofs.next_block.fill.Given as goal

-- the mixer has what the next block needs of the streams so far
abbrev pub invariant-loop-stream : goal.invariant-loop-stream
invariant-loop-stream l = record {
  stands : (studio : Studio) (events : List TraceEvent) (next : ℕ) → IsRunnableBy studio events → HaveTaken events l.fn.cursors
      → HasPlayed studio events (record { mixer = l.fn.mixer; cursors = l.fn.cursors }) next
      → HasFilled studio events (record { mixer = l.mixer; cursors = l.cursors }) next l.stream;
  come : (count : ℕ) → HaveCome count l.fn.cursors → HaveCome count l.cursors;
  idle : AreIdle l.fn.cursors → AreIdle l.cursors;
  packer : l.mixer.packer ≡ l.fn.mixer.packer;
  streams : length l.mixer.lanes ≡ length l.fn.mixer.lanes;
  capacities : capacities_of l.mixer.lanes ≡ capacities_of l.fn.mixer.lanes;
}
