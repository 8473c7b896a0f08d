-- The code that was passed on is the code of the call.
use Rattle.std.proofs.Common.{ap, ◌∙◌, List, ℕ, length, w32}
use Rattle.std.proofs.lemmas.Int.{to_z-of_z}
use Rattle.darbexum_c.specs.Texts.{fault_text_of, buffer_after}
use Rattle.darbexum_c.proofs.version.darbexum_fault_text.Goals as goal

pub returns-clause-text : goal.returns-clause-text
returns-clause-text c =
    c.write_text.ensures
    ∙ ap (λ (text : List ℕ). buffer_after text c.args.out.now) (c.as_bytes-text.ensures.value ∙ c.fault_text.ensures ∙ ap fault_text_of (to_z-of_z w32 c.args.code c.ranges.code))

pub returns-clause-len : goal.returns-clause-len
returns-clause-len c = ap length (c.as_bytes-text.ensures.value ∙ c.fault_text.ensures ∙ ap fault_text_of (to_z-of_z w32 c.args.code c.ranges.code))
