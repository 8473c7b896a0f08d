use Rattle.std.proofs.Common.{List}
use Rattle.studio_session.specs.Event.{TraceEvent}
use Rattle.studio_session.specs.Counts.{AreTallies}
use Rattle.studio_run.specs.Buffer.{PassesOn}
use Rattle.studio_run.specs.Listing.{paths_text}
use Rattle.studio_run.proofs.outputs.report.write_paths.Given as goal

-- the lines of the paths so far were written
abbrev pub invariant-loop-place : goal.invariant-loop-place
invariant-loop-place g l = (events : List TraceEvent) → AreTallies l.cursor.spec l.cursor.number events l.cursor.tallies
    → PassesOn (g.W.Write.contents l.fn.writer) l.fn.text (g.W.Write.contents l.writer) l.text (paths_text l.cursor.spec l.cursor.number events l.place)
