use Rattle.std.proofs.Common.{◌+◌, subst, sym}
use Rattle.gain_mix.specs.Mix.{HasMixed}
use Rattle.gain_mix.proofs.FrameLemmas.{HasMixed-four}
use Rattle.gain_mix.proofs.mix.mix_four.Goals as goal

pub put_four-requires-clause-bounded : goal.put_four-requires-clause-bounded
put_four-requires-clause-bounded c =
    let w = c.weigh_four.ensures in
    record { first = w.first.bounded; second = w.second.bounded; third = w.third.bounded; fourth = w.fourth.bounded }

pub returns : goal.returns
returns c =
    let r = c.requires in
    let mixed = HasMixed-four c.args.matrix.now c.args.ins.now c.args.shift c.args.output c.args.outs.now c.four_rows-rows.result c.weigh_four.result r.within c.four_rows-rows.ensures.at c.weigh_four.ensures r.before in
    subst (HasMixed c.args.matrix.now c.args.ins.now c.args.shift (c.args.output + 4)) (sym c.put_four.ensures) mixed
