use Rattle.std.proofs.Common.{drop}
use Rattle.live_run.specs.Report.{paths_text}
use Rattle.live_run.proofs.TextLemmas.{IsWriting}
use Rattle.live_run.proofs.report.write_paths.Given as goal

-- the lines of the paths so far were passed on
abbrev pub invariant-loop-place : goal.invariant-loop-place
invariant-loop-place g l =
    IsWriting (paths_text l.number 0 l.paths) (g.W.Write.contents l.fn.writer) l.fn.text (g.W.Write.contents l.writer) l.text (paths_text l.number l.place (drop l.place l.paths))
