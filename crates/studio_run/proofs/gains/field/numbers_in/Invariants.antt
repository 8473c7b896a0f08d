use Rattle.std.proofs.Common.{◌≡◌}
use Rattle.studio_run.specs.Fields.{fields_after}
use Rattle.studio_run.specs.GainsNumbers.{integers_of}
use Rattle.studio_run.proofs.GainsNumberLemmas.{behind, octets_left}
use Rattle.studio_run.proofs.gains.field.numbers_in.Given as goal

-- the numbers so far, and those that are left
abbrev pub invariant-loop-left : goal.invariant-loop-left
invariant-loop-left l = integers_of (fields_after l.fn.fields) ≡ behind l.numbers.items (integers_of (fields_after l.left))

abbrev pub decreases-loop-left : goal.decreases-loop-left
decreases-loop-left l = octets_left l.left
