use Rattle.std.proofs.Common.{◌≡◌, ℕ, length, All}
use Rattle.studio_config.specs.Studio.{Studio}
use Rattle.studio_session.specs.Cursor.{IsReadyFor}
use Rattle.studio_session.specs.Play.{HasFilled, HasPlayed, IsRunnableBy}
use Rattle.studio_session.proofs.session.fill.Given as goal

-- the mixer has what the next block needs of the streams so far
abbrev pub invariant-loop-stream : goal.invariant-loop-stream
invariant-loop-stream g l = record {
  ready : All (IsReadyFor (g.E.EventSource.events l.source)) l.cursors;
  stands : (studio : Studio) (next : ℕ) → IsRunnableBy studio (g.E.EventSource.events l.source)
      → HasPlayed studio (g.E.EventSource.events l.source) (record { mixer = l.fn.mixer; cursors = l.fn.cursors }) next
      → HasFilled studio (g.E.EventSource.events l.source) (record { mixer = l.mixer; cursors = l.cursors }) next l.stream;
  packer : l.mixer.packer ≡ l.fn.mixer.packer;
  streams : length l.mixer.lanes ≡ length l.fn.mixer.lanes;
}
