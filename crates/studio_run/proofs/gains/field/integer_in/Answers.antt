use Rattle.std.proofs.Common.{◌-◌, Some, None, inl, inr, take, drop, length, sym, ap, ◌∙◌, arith, w64}
use Rattle.std.proofs.lemmas.Int.{ints, to_z_pos}
use Rattle.std.proofs.lemmas.List.{take_rest}
use Rattle.studio_run.specs.Trace.{number_of}
use Rattle.studio_run.proofs.NumberLemmas.{number_of-is}
use Rattle.studio_run.proofs.GainsNumberLemmas.{below-some, below-zero, integer-minus, integer-plain, not_minus}
use Rattle.studio_run.proofs.gains.field.integer_in.Goals as goal
use Rattle.studio_run.proofs.gains.field.integer_in.Goals.{In-Some, In-None, then-is_empty-via-then-is_empty, then-is_empty-via-else-is_empty+then-field-ne45}

pub returns-in-Some : goal.returns-in-Some
returns-in-Some c =
    let plain = not_minus c.args.field.now (elim c.then-is_empty.branch [ then-is_empty-via-then-is_empty w ↦ inl (sym c.is_empty.ensures ∙ w.if-is_empty.true) | then-is_empty-via-else-is_empty+then-field-ne45 w ↦ inr w.if-field-ne45.true ]) in
    let number = number_of-is 9223372036854775807 c.args.field.now c.decimal_number.result (omega arith) c.decimal_number.ensures.spelled c.decimal_number.ensures.small c.decimal_number.ensures.found in
    integer-plain c.args.field.now (Some c.in-Some.size) plain (number ∙ c.in-Some.is) ∙ ap Some (sym (to_z_pos w64 c.in-Some.size (omega (arith, c.in-Some.ensures.small))))

pub returns-in-None : goal.returns-in-None
returns-in-None c =
    let plain = not_minus c.args.field.now (elim c.then-is_empty.branch [ then-is_empty-via-then-is_empty w ↦ inl (sym c.is_empty.ensures ∙ w.if-is_empty.true) | then-is_empty-via-else-is_empty+then-field-ne45 w ↦ inr w.if-field-ne45.true ]) in
    let number = number_of-is 9223372036854775807 c.args.field.now c.decimal_number.result (omega arith) c.decimal_number.ensures.spelled c.decimal_number.ensures.small c.decimal_number.ensures.found in
    integer-plain c.args.field.now None plain (number ∙ c.in-None.is)

pub returns-in-Some-decimal_number : goal.returns-in-Some-decimal_number
returns-in-Some-decimal_number c =
    let field = c.args.field.now in
    let size = c.in-Some-decimal_number.size in
    let number = number_of-is 9223372036854775807 (take (length field - 1) (drop 1 field)) c.decimal_number-2.result (omega arith) c.decimal_number-2.ensures.spelled c.decimal_number-2.ensures.small c.decimal_number-2.ensures.found in
    let small = c.in-Some-decimal_number.ensures.small in
    integer-minus field (Some size) c.if-field-ne45.false (ap (number_of 9223372036854775807) (sym (take_rest field 1)) ∙ number ∙ c.in-Some-decimal_number.is)
    ∙ below-some size c.if-size-ne0.true
    ∙ ap Some (omega (arith, ints, small))

pub returns-in_default : goal.returns-in_default
returns-in_default c =
    let field = c.args.field.now in
    let number = number_of-is 9223372036854775807 (take (length field - 1) (drop 1 field)) c.decimal_number-2.result (omega arith) c.decimal_number-2.ensures.spelled c.decimal_number-2.ensures.small c.decimal_number-2.ensures.found in
    integer-minus field (Some c.in-Some-decimal_number.size) c.if-field-ne45.false (ap (number_of 9223372036854775807) (sym (take_rest field 1)) ∙ number ∙ c.in-Some-decimal_number.is)
    ∙ below-zero c.in-Some-decimal_number.size c.if-size-ne0.false

pub returns-in_default-2 : goal.returns-in_default-2
returns-in_default-2 c =
    let field = c.args.field.now in
    let number = number_of-is 9223372036854775807 (take (length field - 1) (drop 1 field)) c.decimal_number-2.result (omega arith) c.decimal_number-2.ensures.spelled c.decimal_number-2.ensures.small c.decimal_number-2.ensures.found in
    integer-minus field None c.if-field-ne45.false (ap (number_of 9223372036854775807) (sym (take_rest field 1)) ∙ number ∙ c.in_default.is)
