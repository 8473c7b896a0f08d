use Rattle.std.proofs.lemmas.Grind.{elements}
use Rattle.std.proofs.Common.{rules, ◌≡◌, ◌∷◌, [], ◌++◌, Some, sym, ap, ◌∙◌, arith}
use Rattle.std.proofs.lemmas.List.{append-nil}
use Rattle.studio_run.specs.Fields.{fields_after}
use Rattle.studio_run.specs.GainsNumbers.{integers_of, with_integer}
use Rattle.studio_run.proofs.GainsNumberLemmas.{behind, behind-number, length-integers}
use Rattle.studio_run.proofs.gains.field.numbers_in.Goals as goal

pub loop-left-preserved : goal.loop-left-preserved
loop-left-preserved c =
    let read = c.loop-left.numbers.items in
    let number = c.in-Some-integer_in.number in
    let rest = integers_of (fields_after c.split_field.result.1) in
    let pushed : c.push.new.self.items ≡ read ++ number ∷ [] = search rules in
    c.loop-left.invariant
    ∙ ap (λ left. behind read (integers_of (fields_after left))) c.in-Some.is
    ∙ ap (λ fields. behind read (integers_of fields)) c.split_field.ensures.fields
    ∙ ap (λ spelled. behind read (with_integer spelled rest)) (c.integer_in.ensures ∙ c.in-Some-integer_in.is)
    ∙ behind-number read number rest
    ∙ ap (λ numbers. behind numbers rest) (sym pushed)

pub returns-clause-count : goal.returns-clause-count
returns-clause-count c =
    let read = c.loop-left.numbers.items in
    let spelled : integers_of (fields_after c.args.fields) ≡ Some read =
    c.loop-left.invariant ∙ ap (λ left. behind read (integers_of (fields_after left))) c.in_default.is ∙ ap Some (append-nil read) in
    length-integers (fields_after c.args.fields) read spelled ∙ sym c.count_fields.ensures ∙ c.if-count_fields-count.false

pub loop-left-smaller : goal.loop-left-smaller
loop-left-smaller c = grind (arith, elements)
