use Rattle.std.proofs.lemmas.Grind.{elements}
use Rattle.std.proofs.Common.{Some, None, sym, ◌∙◌, refl, arith}
use Rattle.studio_run.proofs.NumberLemmas.{number_of-is}
use Rattle.studio_run.proofs.TraceLemmas.{some_after, none_after, arrival_of-some, arrival_of-cut, arrival_of-read, no_octets, some_octets}
use Rattle.studio_run.specs.LineEvent.{octets_by}
use Rattle.studio_run.proofs.trace.line.read_arrival.Goals as goal

pub returns-then-is_some-clause-said : goal.returns-then-is_some-clause-said
returns-then-is_some-clause-said c =
    let cut = arrival_of-cut c.args.path c.args.rest c.split_field.result.1 c.split_field-2.result.1 c.in-Some.text c.in-Some-more.after c.split_field.result.0.now c.split_field-2.result.0.now c.in-Some.is c.split_field.ensures.fields c.in-Some-more.is c.split_field-2.ensures.fields in
    cut ∙ arrival_of-some c.args.path c.split_field.result.0.now c.split_field-2.result.0.now _ (some_after c.split_field-2.result.1 (sym c.is_some.ensures ∙ c.if-is_some.true))

pub returns-in_default-decimal_number-clause-said : goal.returns-in_default-decimal_number-clause-said
returns-in_default-decimal_number-clause-said c =
    let cut = arrival_of-cut c.args.path c.args.rest c.split_field.result.1 c.split_field-2.result.1 c.in-Some.text c.in-Some-more.after c.split_field.result.0.now c.split_field-2.result.0.now c.in-Some.is c.split_field.ensures.fields c.in-Some-more.is c.split_field-2.ensures.fields in
    let none = none_after c.split_field-2.result.1 (sym c.is_some.ensures ∙ c.if-is_some.false) in
    let number = number_of-is 15 c.split_field.result.0.now c.decimal_number.result (omega arith) c.decimal_number.ensures.spelled c.decimal_number.ensures.small c.decimal_number.ensures.found in
    cut ∙ arrival_of-read c.args.path c.split_field-2.result.1 c.split_field.result.0.now c.split_field-2.result.0.now None _ none (number ∙ c.in_default-decimal_number.is) refl

pub returns-then-not-spells_octets-clause-said : goal.returns-then-not-spells_octets-clause-said
returns-then-not-spells_octets-clause-said c =
    let cut = arrival_of-cut c.args.path c.args.rest c.split_field.result.1 c.split_field-2.result.1 c.in-Some.text c.in-Some-more.after c.split_field.result.0.now c.split_field-2.result.0.now c.in-Some.is c.split_field.ensures.fields c.in-Some-more.is c.split_field-2.ensures.fields in
    let none = none_after c.split_field-2.result.1 (sym c.is_some.ensures ∙ c.if-is_some.false) in
    let number = number_of-is 15 c.split_field.result.0.now c.decimal_number.result (omega arith) c.decimal_number.ensures.spelled c.decimal_number.ensures.small c.decimal_number.ensures.found in
    cut ∙ arrival_of-read c.args.path c.split_field-2.result.1 c.split_field.result.0.now c.split_field-2.result.0.now (Some c.in-Some-decimal_number.stream) None none (number ∙ c.in-Some-decimal_number.is) (no_octets c.split_field-2.result.0.now (sym c.spells_octets.ensures ∙ c.if-not-spells_octets.true))

pub returns-clause-said : goal.returns-clause-said
returns-clause-said c =
    let cut = arrival_of-cut c.args.path c.args.rest c.split_field.result.1 c.split_field-2.result.1 c.in-Some.text c.in-Some-more.after c.split_field.result.0.now c.split_field-2.result.0.now c.in-Some.is c.split_field.ensures.fields c.in-Some-more.is c.split_field-2.ensures.fields in
    let none = none_after c.split_field-2.result.1 (sym c.is_some.ensures ∙ c.if-is_some.false) in
    let number = number_of-is 15 c.split_field.result.0.now c.decimal_number.result (omega arith) c.decimal_number.ensures.spelled c.decimal_number.ensures.small c.decimal_number.ensures.found in
    cut ∙ arrival_of-read c.args.path c.split_field-2.result.1 c.split_field.result.0.now c.split_field-2.result.0.now (Some c.in-Some-decimal_number.stream) (Some (octets_by c.split_field-2.result.0.now)) none (number ∙ c.in-Some-decimal_number.is) (some_octets c.split_field-2.result.0.now (sym c.spells_octets.ensures ∙ c.if-not-spells_octets.false))

pub returns-clause-last : goal.returns-clause-last
returns-clause-last c = grind (arith, elements)
