use Rattle.std.proofs.Common.{drop}
use Rattle.live_run.specs.Report.{feeds_text}
use Rattle.live_run.proofs.TextLemmas.{IsWriting}
use Rattle.live_run.proofs.report.write_feeds.Given as goal

-- the lines of the feeds of the streams so far were passed on
abbrev pub invariant-loop-number : goal.invariant-loop-number
invariant-loop-number g l =
    IsWriting (feeds_text 0 l.streams l.faults) (g.W.Write.contents l.fn.writer) l.fn.text (g.W.Write.contents l.writer) l.text (feeds_text l.number (drop l.number l.streams) l.rest)
