use Rattle.std.proofs.Common.{ap, ◌∙◌}
use Rattle.studio_run.specs.Fields.{fields_after}
use Rattle.studio_run.specs.Trace.{close_of}
use Rattle.studio_run.proofs.TraceLemmas.{some_fields, close_of-some}
use Rattle.studio_run.proofs.trace.line.read_close.Goals as goal

pub returns-in-Some-clause-said : goal.returns-in-Some-clause-said
returns-in-Some-clause-said c = ap (λ r. close_of (fields_after r)) c.in-Some.is ∙ close_of-some _ (some_fields c.in-Some.field-0.now)
