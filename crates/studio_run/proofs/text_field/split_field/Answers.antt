use Rattle.std.proofs.Common.{◌+◌, sym, ◌∙◌}
use Rattle.std.proofs.lemmas.List.{take_rest}
use Rattle.studio_run.proofs.TraceLemmas.{EndsWith-drop}
use Rattle.studio_run.proofs.FieldsLemmas.{split-Some, split-None}
use Rattle.studio_run.proofs.text_field.split_field.Goals as goal

pub returns-in-Some-clause-fields : goal.returns-in-Some-clause-fields
returns-in-Some-clause-fields c = split-Some 32 c.args.text.now c.in-Some.end (sym c.first_place.ensures ∙ c.in-Some.is)

pub returns-in-None-clause-fields : goal.returns-in-None-clause-fields
returns-in-None-clause-fields c = split-None 32 c.args.text.now (sym c.first_place.ensures ∙ c.in-None.is)

pub returns-in-Some-clause-last : goal.returns-in-Some-clause-last
returns-in-Some-clause-last c = rw (take_rest c.args.text.now (c.in-Some.end + 1)) (EndsWith-drop c.args.text.now (c.in-Some.end + 1))
