use Rattle.std.proofs.Common.{◌≡◌, ◌≤◌, ℕ, List, length}
use Rattle.mix_packets.specs.OutSpec.{datagram_length}
use Rattle.studio_config.specs.Studio.{Studio}
use Rattle.studio_session.specs.Event.{TraceEvent}
use Rattle.studio_session.specs.Run.{blocks_left}
use Rattle.studio_io.specs.SendSums.{KeepsSums}
use Rattle.studio_engine.specs.Session.{HasSession}
use Rattle.engine_run.specs.Output.{HasSent}
use Rattle.engine_run.proofs.output.send_rest.Given as goal

-- the datagrams so far were sent
abbrev pub invariant-loop-len : goal.invariant-loop-len
invariant-loop-len g l = record {
  closed : l.engine.closed ≡ l.fn.engine.closed;
  space : length l.out ≡ 1452;
  short : datagram_length l.engine.mixer.packer.spec ≤ 1452;
  sent : (studio : Studio) (events : List TraceEvent) (datagrams : List (List ℕ)) → HasSession studio l.fn.engine events datagrams
      → HasSent studio l.engine events datagrams (g.K.Sink.handed l.fn.sink) (g.K.Sink.handed l.sink) l.fn.counts.blocks l.counts.blocks;
  sums : KeepsSums l.fn.counts (g.K.Sink.answered l.fn.sink) l.counts (g.K.Sink.answered l.sink);
}

abbrev pub decreases-loop-len : goal.decreases-loop-len
decreases-loop-len g l = blocks_left l.engine.mixer.packer
