use Rattle.std.proofs.Common.{sym, subst}
use Rattle.studio_session.specs.Report.{AreCounts}
use Rattle.studio_io.proofs.SumLemmas.{tally-is}
use Rattle.engine_run.proofs.report.work_report.Goals as goal

-- the report's counts of the streams are those that were passed to it
pub returns-clause-counts : goal.returns-clause-counts
returns-clause-counts g c = λ studio events datagrams has all are.
    subst (λ s. AreCounts studio events s.items) (sym c.new-report.ensures.streams) (c.in_ok-streams.ensures studio events datagrams has all are)

pub returns-clause-numbers : goal.returns-clause-numbers
returns-clause-numbers g c = let r = c.new-report.ensures in tally-is _ _ r.blocks r.sent_a r.sent_b r.fault_a r.fault_b
