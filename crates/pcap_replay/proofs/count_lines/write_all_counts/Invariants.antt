use Rattle.std.proofs.Common.{◌≡◌, ℕ, List, take}
use Rattle.studio_config.specs.Studio.{Studio}
use Rattle.studio_session.specs.Event.{TraceEvent}
use Rattle.studio_engine.specs.Session.{HasSession}
use Rattle.studio_run.specs.Buffer.{PassesOn}
use Rattle.studio_run.specs.Listing.{stream_counts_text, texts_from}
use Rattle.pcap_replay.proofs.count_lines.write_all_counts.Given as goal

-- the lines of the streams so far were written
abbrev pub invariant-loop-number : goal.invariant-loop-number
invariant-loop-number g l = (studio : Studio) (events : List TraceEvent) (datagrams : List (List ℕ)) → HasSession studio l.engine events datagrams → studio.streams ≡ l.streams
    → PassesOn (g.W.Write.contents l.fn.writer) l.fn.text (g.W.Write.contents l.writer) l.text (texts_from (stream_counts_text studio.open_at events) 0 (take l.number studio.streams))
