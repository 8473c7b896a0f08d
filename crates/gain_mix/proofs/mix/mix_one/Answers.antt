use Rattle.std.proofs.Common.{rules, refl}
use Rattle.gain_mix.proofs.SumLemmas.{output_sample-step}
use Rattle.gain_mix.proofs.FrameLemmas.{HasMixed-more}
use Rattle.gain_mix.proofs.mix.mix_one.Goals as goal

pub returns : goal.returns
returns c =
    let s = c.args.shift in
    let xs = c.args.ins.now in
    let sample = output_sample-step s c.row.result.now xs c.weighted_sum.result c.sample_of.result (search rules) (search rules) c.weighted_sum.ensures c.sample_of.ensures in
    HasMixed-more c.args.matrix.now xs s c.args.output _ c.args.outs.now c.row.result.now _ c.requires.before refl c.requires.within c.row.ensures.row sample
