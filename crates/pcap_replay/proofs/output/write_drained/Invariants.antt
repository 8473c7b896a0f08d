use Rattle.std.proofs.Common.{◌≡◌, ℕ, List, length}
use Rattle.studio_config.specs.Studio.{Studio}
use Rattle.studio_session.specs.Event.{TraceEvent}
use Rattle.studio_session.specs.Run.{blocks_left}
use Rattle.studio_engine.specs.Session.{HasSession}
use Rattle.pcap_replay.specs.Lines.{GivesLines}
use Rattle.pcap_replay.proofs.output.write_drained.Given as goal

-- the lines of the datagrams so far were written
abbrev pub invariant-rounds : goal.invariant-rounds
invariant-rounds g l = record {
  space : length l.out ≡ 1452;
  output : l.engine.mixer.packer.spec ≡ l.fn.engine.mixer.packer.spec;
  closed : l.engine.closed ≡ l.fn.engine.closed;
  stands : (studio : Studio) (events : List TraceEvent) (datagrams : List (List ℕ)) (begun : g.row.L.Denot) → HasSession studio l.fn.engine events datagrams
      → GivesLines studio l.engine events datagrams (g.W.Write.contents l.fn.writer) l.fn.text (g.W.Write.contents l.writer) l.text (g.L.ReplayObserver.heard begun l.fn.observer) (g.L.ReplayObserver.heard begun l.observer);
}

abbrev pub decreases-rounds : goal.decreases-rounds
decreases-rounds g l = blocks_left l.engine.mixer.packer
