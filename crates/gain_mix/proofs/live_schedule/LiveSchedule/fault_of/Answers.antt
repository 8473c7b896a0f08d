use Rattle.std.proofs.lemmas.Grind.{common_steps, elements}
use Rattle.std.proofs.Common.{arith}
use Rattle.gain_mix.proofs.live_schedule.LiveSchedule.fault_of.Goals as goal

pub returns-then-not-has_range-clause-later : goal.returns-then-not-has_range-clause-later
returns-then-not-has_range-clause-later c = grind (arith, elements)

pub returns-then-not-at-clause-later : goal.returns-then-not-at-clause-later
returns-then-not-at-clause-later c = grind (arith, elements)

pub returns-else-kept-ge-CHANGES-clause-range : goal.returns-else-kept-ge-CHANGES-clause-range
returns-else-kept-ge-CHANGES-clause-range c = grind (arith, common_steps)

pub returns-else-kept-ge-CHANGES-clause-later : goal.returns-else-kept-ge-CHANGES-clause-later
returns-else-kept-ge-CHANGES-clause-later c = grind (arith, elements)

pub returns-then-kept-ge-CHANGES-clause-place : goal.returns-then-kept-ge-CHANGES-clause-place
returns-then-kept-ge-CHANGES-clause-place c = grind (arith, elements)

pub returns-then-not-has_range-clause-place : goal.returns-then-not-has_range-clause-place
returns-then-not-has_range-clause-place c = grind (arith, elements)

pub returns-then-not-at-clause-place : goal.returns-then-not-at-clause-place
returns-then-not-at-clause-place c = grind (arith, elements)

pub returns-then-not-at-clause-shape : goal.returns-then-not-at-clause-shape
returns-then-not-at-clause-shape c = grind (arith, elements)

pub returns-then-gains-outs-clause-shape : goal.returns-then-gains-outs-clause-shape
returns-then-gains-outs-clause-shape c = grind (arith, elements)

pub returns-then-not-has_range-clause-shape : goal.returns-then-not-has_range-clause-shape
returns-then-not-has_range-clause-shape c = grind (arith, elements)

pub returns-then-kept-ge-CHANGES-clause-range : goal.returns-then-kept-ge-CHANGES-clause-range
returns-then-kept-ge-CHANGES-clause-range c = grind (arith, elements)

pub returns-then-not-has_range-clause-range : goal.returns-then-not-has_range-clause-range
returns-then-not-has_range-clause-range c = grind (arith, elements)

pub returns-else-kept-ge-CHANGES-clause-shape : goal.returns-else-kept-ge-CHANGES-clause-shape
returns-else-kept-ge-CHANGES-clause-shape c = grind (arith, elements)

pub returns-then-kept-ge-CHANGES-clause-shape : goal.returns-then-kept-ge-CHANGES-clause-shape
returns-then-kept-ge-CHANGES-clause-shape c = grind (arith, elements)

pub returns-then-gains-outs-clause-later : goal.returns-then-gains-outs-clause-later
returns-then-gains-outs-clause-later c = grind (arith, elements)

pub returns-then-not-at-clause-range : goal.returns-then-not-at-clause-range
returns-then-not-at-clause-range c = grind (arith, elements)

pub returns-then-gains-outs-clause-place : goal.returns-then-gains-outs-clause-place
returns-then-gains-outs-clause-place c = grind (arith, elements)

pub returns-then-kept-ge-CHANGES-clause-later : goal.returns-then-kept-ge-CHANGES-clause-later
returns-then-kept-ge-CHANGES-clause-later c = grind (arith, elements)

pub returns-then-not-at-clause-value : goal.returns-then-not-at-clause-value
returns-then-not-at-clause-value c = grind (arith, elements)

pub returns-then-gains-outs-clause-range : goal.returns-then-gains-outs-clause-range
returns-then-gains-outs-clause-range c = grind (arith, elements)
