use Rattle.std.proofs.Common.{drop}
use Rattle.live_run.specs.Report.{streams_text}
use Rattle.live_run.proofs.TextLemmas.{IsWriting}
use Rattle.live_run.proofs.report.write_streams.Given as goal

-- the lines of the streams so far were passed on
abbrev pub invariant-loop-number : goal.invariant-loop-number
invariant-loop-number g l =
    IsWriting (streams_text 0 l.streams) (g.W.Write.contents l.fn.writer) l.fn.text (g.W.Write.contents l.writer) l.text (streams_text l.number (drop l.number l.streams))
