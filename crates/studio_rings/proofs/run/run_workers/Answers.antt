use Rattle.studio_rings.proofs.RunLemmas.{settled-unchanged}
use Rattle.studio_rings.proofs.run.run_workers.Goals as goal

pub returns-clause-settled : goal.returns-clause-settled
returns-clause-settled g c = λ settled studio places opened. settled-unchanged studio places _ _ _ _ _ _ (c.in_ok-report.ensures.settled settled studio places opened)
