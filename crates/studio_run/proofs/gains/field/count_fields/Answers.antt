use Rattle.std.proofs.Common.{◌+◌, eqb, length, sym, ap, ◌∙◌}
use Rattle.std.proofs.lemmas.List.Splits.{length-slice_split}
use Rattle.studio_run.specs.Fields.{fields_after}
use Rattle.studio_run.proofs.gains.field.count_fields.Goals as goal

pub returns-in-Some : goal.returns-in-Some
returns-in-Some c = ap (λ n. n + 1) c.count_spaces.ensures.count ∙ sym (length-slice_split (λ octet. eqb octet 32) c.in-Some.text.now) ∙ ap (λ f. length (fields_after f)) (sym c.in-Some.is)
