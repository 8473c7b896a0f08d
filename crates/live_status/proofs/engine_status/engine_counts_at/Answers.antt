use Rattle.std.proofs.Common.{ℕ, IfSome, subst}
use Rattle.live_status.specs.Engine.{HasEnginePathCounts}
use Rattle.live_status.proofs.engine_status.engine_counts_at.Goals as goal

pub returns-clause-value : goal.returns-clause-value
returns-clause-value c = subst (λ (p : ℕ). IfSome c.path_counts.result (HasEnginePathCounts c.args.engine.now c.args.number p)) c.in-Some.ensures.value c.path_counts.ensures.value
