use Rattle.std.proofs.Common.{◌≡◌, length, map, All}
use Rattle.studio_config.specs.Studio.{Studio}
use Rattle.studio_session.specs.Cursor.{IsReadyFor}
use Rattle.studio_session.specs.Play.{HasPlayed, IsRunnableBy}
use Rattle.studio_session.specs.Run.{HasGivenBlocks, blocks_left}
use Rattle.studio_session.proofs.datagrams.all_datagrams.Given as goal

-- the datagrams so far are those of the first blocks
abbrev pub invariant-rounds : goal.invariant-rounds
invariant-rounds g l = record {
  ready : All (IsReadyFor (g.E.EventSource.events l.source)) l.session.cursors;
  space : length l.out ≡ 1452;
  spec : l.session.mixer.packer.spec ≡ l.fn.session.mixer.packer.spec;
  stands : (studio : Studio) → IsRunnableBy studio (g.E.EventSource.events l.source) → HasPlayed studio (g.E.EventSource.events l.source) l.fn.session 0
      → HasGivenBlocks studio (g.E.EventSource.events l.source) l.session (map (λ d. d.items) l.datagrams.items);
}

abbrev pub decreases-rounds : goal.decreases-rounds
decreases-rounds g l = blocks_left l.session.mixer.packer
