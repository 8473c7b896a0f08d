use Rattle.std.proofs.Common.{◌≡◌, ◌^◌, ℤ, pos, negsuc, ◌+ℤ◌, ◌≤ℤ◌, FitsSigned, true, false, arith, ap, sym, ◌∙◌, to_z, of_z, w64}
use Rattle.std.proofs.lemmas.Int.{ints}
use Rattle.mix_packets.specs.OutSpec.{is_start}
use Rattle.studio_config.proofs.studio.shift.moved_output.Goals as goal

-- the sum of a start and the amount by which it moves
sum : (start by : ℤ) → pos 0 ≤ℤ start → start ≤ℤ pos (2 ^ 60) → negsuc (2 ^ 60) ≤ℤ by → by ≤ℤ pos (2 ^ 60) → to_z w64 (of_z w64 (to_z w64 (of_z w64 start) +ℤ to_z w64 (of_z w64 by))) ≡ start +ℤ by
sum start by from_zero to_latest low high = omega (arith, ints)

-- the sum fits 64 bits
sum_fits : (start by : ℤ) → pos 0 ≤ℤ start → start ≤ℤ pos (2 ^ 60) → negsuc (2 ^ 60) ≤ℤ by → by ≤ℤ pos (2 ^ 60) → FitsSigned w64 (to_z w64 (of_z w64 start) +ℤ to_z w64 (of_z w64 by))
sum_fits start by from_zero to_latest low high = omega (arith, ints)

pub overflow_add-start : goal.overflow_add-start
overflow_add-start c =
    let sound = c.start.ensures.sound in
    rw c.start.ensures.value (sum_fits c.args.output.start c.args.by sound.start_low sound.start_high c.requires.low c.requires.high)

pub returns-in-Ok-clause-fine : goal.returns-in-Ok-clause-fine
returns-in-Ok-clause-fine c =
    let sound = c.start.ensures.sound in
    let is = sum c.args.output.start c.args.by sound.start_low sound.start_high c.requires.low c.requires.high in
    let fine = rw c.start.ensures.value at c.in-Ok.ensures.fine in
    let moved : is_start (c.args.output.start +ℤ c.args.by) ≡ true = ap is_start (sym is) ∙ fine in
    rw moved

pub returns-in-Err-clause-fault : goal.returns-in-Err-clause-fault
returns-in-Err-clause-fault c =
    let sound = c.start.ensures.sound in
    let is = sum c.args.output.start c.args.by sound.start_low sound.start_high c.requires.low c.requires.high in
    let fault = rw c.start.ensures.value at c.in-Err.ensures.fault in
    let moved : is_start (c.args.output.start +ℤ c.args.by) ≡ false = ap is_start (sym is) ∙ fault in
    rw (moved, c.out_of_range.ensures)
