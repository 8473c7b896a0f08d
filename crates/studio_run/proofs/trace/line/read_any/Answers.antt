use Rattle.studio_run.proofs.TraceLemmas.{IsLast-from_rest}
use Rattle.studio_run.proofs.trace.line.read_any.Goals as goal

pub returns-in-Ok-clause-last : goal.returns-in-Ok-clause-last
returns-in-Ok-clause-last c = IsLast-from_rest _ _ _ c.split_field.ensures.last c.in-Ok.ensures.last
