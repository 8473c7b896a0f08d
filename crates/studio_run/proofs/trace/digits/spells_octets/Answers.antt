use Rattle.std.proofs.Common.{◌≡◌, ◌%◌, ◌<◌, length, arith}
use Rattle.std.proofs.lemmas.Bool.Decides.{nat_tests}
use Rattle.studio_run.proofs.DigitLemmas.{spells_is}
use Rattle.studio_run.proofs.trace.digits.spells_octets.Goals as goal
use Rattle.studio_run.proofs.trace.digits.spells_octets.Goals.{then-not-is_empty, else-not-is_empty}

pub returns-then-text-eq0 : goal.returns-then-text-eq0
returns-then-text-eq0 c =
    elim c.if-not-is_empty.branch [
      | then-not-is_empty w ↦
          let some : 0 < length c.args.text.now = grind (arith, nat_tests, c.is_empty.ensures, w.if-not-is_empty) in
          let even : length c.args.text.now % 2 ≡ 0 = grind (arith, nat_tests, c.if-text-eq0.true, w.value-is) in
          spells_is c.args.text.now c.are_digits.result some even c.are_digits.ensures
      | else-not-is_empty w ↦ absurd (grind (arith, c.if-text-eq0.true, w.value-is))
    ]
