use Rattle.std.proofs.Common.{◌≡◌, length, All}
use Rattle.studio_config.specs.Studio.{Studio}
use Rattle.studio_session.specs.Cursor.{IsReadyFor}
use Rattle.studio_session.specs.Play.{HasPlayed, IsRunnableBy}
use Rattle.studio_session.specs.Run.{blocks_left}
use Rattle.studio_run.specs.StudioReport.{IsReporting}
use Rattle.studio_run.proofs.outputs.report.write_datagrams.Given as goal

-- the lines of the blocks so far were written
abbrev pub invariant-rounds : goal.invariant-rounds
invariant-rounds g l = record {
  ready : All (IsReadyFor (g.E.EventSource.events l.source)) l.session.cursors;
  space : length l.out ≡ 1452;
  spec : l.session.mixer.packer.spec ≡ l.fn.session.mixer.packer.spec;
  stands : (studio : Studio) → IsRunnableBy studio (g.E.EventSource.events l.source) → HasPlayed studio (g.E.EventSource.events l.source) l.fn.session 0
      → IsReporting studio (g.E.EventSource.events l.source) (g.W.Write.contents l.fn.writer) l.fn.text l.session (g.W.Write.contents l.writer) l.text;
}

abbrev pub decreases-rounds : goal.decreases-rounds
decreases-rounds g l = blocks_left l.session.mixer.packer
