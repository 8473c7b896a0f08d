use Rattle.std.proofs.Common.{ℕ, List, Option, None}
use Rattle.studio_config.specs.Studio.{Studio}
use Rattle.pcap_file.specs.ReadBuffer.{octets_of}
use Rattle.pcap_replay.specs.Routing.{plan_view}
use Rattle.pcap_replay.specs.Replay.{IsReplaying}
use Rattle.pcap_replay.proofs.state.ReplayState.run_events.Given as goal

-- the packets so far were replayed
abbrev pub invariant-parts : goal.invariant-parts
invariant-parts g l = (studio : Studio) (first : Option (List ℕ)) (written : Option (List ℕ)) (begun : g.row.L.Denot)
    → IsReplaying studio (plan_view l.plan) first written l.fn.self l.fn.parts (octets_of l.fn.window) l.fn.window.ended (g.R.Read.remaining l.fn.reader) (g.W.Write.contents l.fn.writer) (g.L.ReplayObserver.heard begun l.fn.observer) None 0
    → IsReplaying studio (plan_view l.plan) first written l.self l.parts (octets_of l.window) l.window.ended (g.R.Read.remaining l.reader) (g.W.Write.contents l.writer) (g.L.ReplayObserver.heard begun l.observer) l.closing l.closing_place
