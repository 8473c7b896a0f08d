use Rattle.std.proofs.Common.{drop}
use Rattle.live_run.specs.Report.{own_feeds_text}
use Rattle.live_run.proofs.TextLemmas.{IsWriting}
use Rattle.live_run.proofs.report.write_own_feeds.Given as goal

-- the lines of the feeds so far were passed on
abbrev pub invariant-loop-place : goal.invariant-loop-place
invariant-loop-place g l =
    IsWriting (own_feeds_text l.number 0 l.faults) (g.W.Write.contents l.fn.writer) l.fn.text (g.W.Write.contents l.writer) l.text (own_feeds_text l.number l.place (drop l.place l.faults))
