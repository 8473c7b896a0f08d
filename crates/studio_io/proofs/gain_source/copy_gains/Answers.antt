use Rattle.std.proofs.Common.{◌≡◌, length, sym, ap, ◌∙◌, arith}
use Rattle.std.proofs.lemmas.Bool.Decides.{nat_tests}
use Rattle.studio_io.specs.Gains.{gains_in}
use Rattle.studio_io.proofs.GainLemmas.{gains_joined}
use Rattle.studio_io.proofs.gain_source.copy_gains.Goals as goal

pub returns-then-gains-all-clause-fault : goal.returns-then-gains-all-clause-fault
returns-then-gains-all-clause-fault c =
    let long : length (gains_in c.args.matrix.now) ≡ length c.gains-all.result.now = ap length (gains_joined c.args.matrix.now c.gains-all.result.now c.gains-all.ensures.by_row c.gains-all.ensures.len) in
    let unlike = c.if-gains-all.true in
    grind (arith, nat_tests, long, unlike)

pub returns-clause-written : goal.returns-clause-written
returns-clause-written c = c.copy_from_slice.ensures.after ∙ sym (gains_joined c.args.matrix.now c.gains-all.result.now c.gains-all.ensures.by_row c.gains-all.ensures.len)

pub returns-clause-fine : goal.returns-clause-fine
returns-clause-fine c =
    let long : length (gains_in c.args.matrix.now) ≡ length c.gains-all.result.now = ap length (gains_joined c.args.matrix.now c.gains-all.result.now c.gains-all.ensures.by_row c.gains-all.ensures.len) in
    let alike = c.if-gains-all.false in
    grind (arith, nat_tests, long, alike)
