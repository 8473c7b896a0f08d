use Rattle.std.proofs.Common.{◌≡◌, subst, sym, refl, ◌∙◌, arith}
use Rattle.std.specs.Str.{IsUtf8}
use Rattle.std.specs.Str.Parse.{ParsesUnsigned}
use Rattle.studio_run.proofs.DecimalLemmas.{BeginsPlainly, BeginsPlainly-decimal, IsUtf8-decimal, decimal-parsed, parsed-decimal}
use Rattle.studio_run.proofs.text_field.decimal_number.Goals as goal

pub returns-then-not-begins_plainly-clause-found : goal.returns-then-not-begins_plainly-clause-found
returns-then-not-begins_plainly-clause-found c n most is =
    let plain = subst BeginsPlainly (sym is) (BeginsPlainly-decimal n (omega arith)) in
    cc (c.if-not-begins_plainly.ensures.1 (plain.unsigned, plain.no_zero))

pub returns-in_default-clause-found : goal.returns-in_default-clause-found
returns-in_default-clause-found c n most is =
    absurd (c.in_default.ensures.cases.0 (subst IsUtf8 (sym is) (IsUtf8-decimal n (omega arith))))

pub returns-in-Ok-parse-clause-spelled : goal.returns-in-Ok-parse-clause-spelled
returns-in-Ok-parse-clause-spelled c =
    let facts = c.if-not-begins_plainly.ensures.0 refl in
    let same = c.in-Ok.ensures.cases.0 in
    let parses = subst (λ s. ParsesUnsigned 64 10 s c.parse.result) same c.parse.ensures.value.0 in
    decimal-parsed c.args.text.now c.in-Ok-parse.number c.parse.result parses c.in-Ok-parse.is (record { unsigned = facts.0; no_zero = facts.1 })

pub returns-in-Ok-parse-clause-found : goal.returns-in-Ok-parse-clause-found
returns-in-Ok-parse-clause-found c n most is =
    let same = c.in-Ok.ensures.cases.0 in
    let found = parsed-decimal _ n c.parse.result (omega arith) (same ∙ is) c.parse.ensures.value.0 in
    cc (found, c.in-Ok-parse.is)

pub returns-in_default-parse-clause-found : goal.returns-in_default-parse-clause-found
returns-in_default-parse-clause-found c n most is =
    let same = c.in-Ok.ensures.cases.0 in
    let found = parsed-decimal _ n c.parse.result (omega arith) (same ∙ is) c.parse.ensures.value.0 in
    let number : n ≡ c.in-Ok-parse.number = cc (found, c.in-Ok-parse.is) in
    absurd (omega (arith, number))

pub returns-in_default-parse-2-clause-found : goal.returns-in_default-parse-2-clause-found
returns-in_default-parse-2-clause-found c n most is =
    let same = c.in-Ok.ensures.cases.0 in
    let found = parsed-decimal _ n c.parse.result (omega arith) (same ∙ is) c.parse.ensures.value.0 in
    cc (found, c.in_default-parse.is)
