use Rattle.std.proofs.Common.{◌≡◌, ℕ, List, Some, slice_get}
use Rattle.studio_config.specs.Studio.{Studio}
use Rattle.studio_session.specs.Event.{TraceEvent}
use Rattle.studio_engine.specs.Session.{HasSession}
use Rattle.studio_run.specs.Buffer.{PassesOn}
use Rattle.studio_run.specs.Listing.{paths_text}
use Rattle.pcap_replay.proofs.count_lines.write_paths.Given as goal

-- the lines of the paths so far were written
abbrev pub invariant-loop-place : goal.invariant-loop-place
invariant-loop-place g l = (studio : Studio) (events : List TraceEvent) (datagrams : List (List ℕ)) → HasSession studio l.engine events datagrams → slice_get studio.streams l.number ≡ Some l.stream
    → PassesOn (g.W.Write.contents l.fn.writer) l.fn.text (g.W.Write.contents l.writer) l.text (paths_text l.stream l.number events l.place)
