use Rattle.live_run.proofs.RunLemmas.{is_early}
use Rattle.live_run.proofs.workers.run_in_workers.Goals as goal

pub returns-in_err-task-clause-early : goal.returns-in_err-task-clause-early
returns-in_err-task-clause-early g c = is_early c.from_residual-in_err-task.result c.from_residual-in_err-task.ensures.1
