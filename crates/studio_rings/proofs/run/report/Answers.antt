use Rattle.std.proofs.Common.{sym, ◌∙◌}
use Rattle.studio_io.proofs.SumLemmas.{tally-is}
use Rattle.studio_rings.proofs.run.report.Goals as goal

pub returns-clause-settled : goal.returns-clause-settled
returns-clause-settled g c = λ e. c.is_settled_with-settled.ensures.blocks (sym c.new.ensures.settled ∙ e)

pub returns-clause-numbers : goal.returns-clause-numbers
returns-clause-numbers g c = let r = c.new.ensures in tally-is _ _ r.blocks r.sent_a r.sent_b r.fault_a r.fault_b
