use Rattle.std.proofs.Common.{◌∷◌, ap, sym, ◌∙◌, Ok, arith, w64}
use Rattle.studio_run.specs.Fields.{fields_after}
use Rattle.studio_session.specs.Event.{Tick}
use Rattle.studio_run.specs.Trace.{tick_of, reading}
use Rattle.studio_run.proofs.NumberLemmas.{number_of-is}
use Rattle.studio_run.proofs.TraceLemmas.{some_after, none_after, tick_of-some}
use Rattle.std.proofs.lemmas.Int.{to_z_pos}
use Rattle.studio_run.proofs.trace.line.read_tick.Goals as goal

pub returns-then-is_some-clause-said : goal.returns-then-is_some-clause-said
returns-then-is_some-clause-said c =
    let many = tick_of-some c.split_field.result.0.now _ (some_after c.split_field.result.1 (sym c.is_some.ensures ∙ c.if-is_some.true)) in
    ap (λ r. tick_of (fields_after r)) c.in-Some.is ∙ ap tick_of c.split_field.ensures.fields ∙ many

pub returns-in-Some-decimal_number-clause-said : goal.returns-in-Some-decimal_number-clause-said
returns-in-Some-decimal_number-clause-said c =
    let none = none_after c.split_field.result.1 (sym c.is_some.ensures ∙ c.if-is_some.false) in
    let number = number_of-is 9223372036854775807 c.split_field.result.0.now c.decimal_number.result (omega arith) c.decimal_number.ensures.spelled c.decimal_number.ensures.small c.decimal_number.ensures.found in
    ap (λ r. tick_of (fields_after r)) c.in-Some.is ∙ ap tick_of c.split_field.ensures.fields ∙ ap (λ fs. tick_of (c.split_field.result.0.now ∷ fs)) none ∙ ap reading number ∙ ap reading c.in-Some-decimal_number.is ∙ ap (λ z. Ok (Tick z)) (sym (to_z_pos w64 c.in-Some-decimal_number.time (omega (arith, c.in-Some-decimal_number.ensures.small))))

pub returns-in-None-clause-said : goal.returns-in-None-clause-said
returns-in-None-clause-said c =
    let none = none_after c.split_field.result.1 (sym c.is_some.ensures ∙ c.if-is_some.false) in
    let number = number_of-is 9223372036854775807 c.split_field.result.0.now c.decimal_number.result (omega arith) c.decimal_number.ensures.spelled c.decimal_number.ensures.small c.decimal_number.ensures.found in
    ap (λ r. tick_of (fields_after r)) c.in-Some.is ∙ ap tick_of c.split_field.ensures.fields ∙ ap (λ fs. tick_of (c.split_field.result.0.now ∷ fs)) none ∙ ap reading number ∙ ap reading c.in-None.is
