use Rattle.engine_run.proofs.state.RunState.turn_if_stale.Goals as goal

pub returns-then-is_new-clause-sums : goal.returns-then-is_new-clause-sums
returns-then-is_new-clause-sums g c = λ first h. h

pub returns-clause-sums : goal.returns-clause-sums
returns-clause-sums g c = c.turn.ensures.sums
