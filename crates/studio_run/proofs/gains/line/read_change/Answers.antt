use Rattle.std.proofs.Common.{◌≡◌, ◌⊎◌, ℕ, List, Ok, Err, IfOk, IfErr, subst, sym}
use Rattle.studio_run.specs.Gains.{fields_said}
use Rattle.studio_run.specs.declared.gains.fault.GainsFaultKind.TheVariants.{Memory}
use Rattle.studio_run.proofs.gains.line.read_change.Goals as goal

pub returns-clause-ok : goal.returns-clause-ok
returns-clause-ok c =
    subst (λ (fields : List (List ℕ)). IfOk c.read_fields.result (λ change. fields_said c.args.schedule.now fields ≡ Ok change)) (sym c.split_field.ensures.fields) c.read_fields.ensures.ok

pub returns-clause-fault : goal.returns-clause-fault
returns-clause-fault c =
    subst (λ (fields : List (List ℕ)). IfErr c.read_fields.result (λ e. (e ≡ Memory) ⊎ (fields_said c.args.schedule.now fields ≡ Err e))) (sym c.split_field.ensures.fields) c.read_fields.ensures.fault
