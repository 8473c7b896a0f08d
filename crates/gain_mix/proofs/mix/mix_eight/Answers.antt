use Rattle.std.proofs.Common.{ℕ, ◌+◌, arith, subst, sym}
use Rattle.gain_mix.specs.Mix.{HasMixed}
use Rattle.gain_mix.proofs.FrameLemmas.{HasMixed-four}
use Rattle.gain_mix.proofs.mix.mix_eight.Goals as goal

pub put_four-requires-clause-bounded : goal.put_four-requires-clause-bounded
put_four-requires-clause-bounded c =
    let w = c.weigh_eight.ensures.low in
    record { first = w.first.bounded; second = w.second.bounded; third = w.third.bounded; fourth = w.fourth.bounded }

pub put_four-requires-2-clause-bounded : goal.put_four-requires-2-clause-bounded
put_four-requires-2-clause-bounded c =
    let w = c.weigh_eight.ensures.high in
    record { first = w.first.bounded; second = w.second.bounded; third = w.third.bounded; fourth = w.fourth.bounded }

pub returns : goal.returns
returns c =
    let xs = c.args.ins.now in
    let s = c.args.shift in
    let i = c.args.output in
    let Mixed = HasMixed c.args.matrix.now xs s in
    let w = c.weigh_eight.ensures in
    let low = HasMixed-four c.args.matrix.now xs s i c.args.outs.now c.four_rows-low.result c.weigh_eight.result.0 (omega (arith, c.requires.within)) c.four_rows-low.ensures.at w.low c.requires.before in
    let high = HasMixed-four c.args.matrix.now xs s (i + 4) _ c.four_rows-high.result c.weigh_eight.result.1 (omega (arith, c.requires.within)) c.four_rows-high.ensures.at w.high (subst (Mixed (i + 4)) (sym c.put_four.ensures) low) in
    subst (λ (n : ℕ). Mixed n c.put_four-2.new.outs) (omega arith) (subst (Mixed (i + 4 + 4)) (sym c.put_four-2.ensures) high)

pub weigh_eight-requires-clause-low : goal.weigh_eight-requires-clause-low
weigh_eight-requires-clause-low c = omega arith

pub weigh_eight-requires-clause-high : goal.weigh_eight-requires-clause-high
weigh_eight-requires-clause-high c = omega arith
