use Rattle.std.proofs.lemmas.Grind.{elements}
use Rattle.std.proofs.Common.{◌≡◌, ◌+◌, ◌*◌, ℤ, pos, get_or, sym, subst, ◌∙◌, arith, to_z, of_z, w32}
use Rattle.std.proofs.lemmas.List.Elements.{All-set}
use Rattle.gain_mix.specs.Mix.{Is24Bits}
use Rattle.studio_mix.proofs.LayLemmas.{laid_sample, laid_samples, sample_in_32}
use Rattle.studio_mix.proofs.interleave.lay_samples.Goals as goal

pub loop-frame-preserved : goal.loop-frame-preserved
loop-frame-preserved c =
    let i = c.loop-frame.frame in
    let values = c.args.values.now in
    let v : ℤ = get_or values i (pos 0) in
    let has : Is24Bits v = c.requires.in_24_bits i (pos 0) (omega (arith, c.requires.values, c.loop-frame-test.true)) in
    let same : to_z w32 (of_z w32 v) ≡ v = sample_in_32 v has in
    record {
      laid = laid_sample c.args.frames c.args.width c.args.at i values c.args.wide.now c.loop-frame.wide (to_z w32 (of_z w32 v)) (pos 0) c.loop-frame-test.true c.requires.within (c.loop-frame.auto.wide ∙ c.requires.wide) c.requires.values same c.loop-frame.invariant.laid;
      in_24_bits = All-set Is24Bits c.loop-frame.wide (i * c.args.width + c.args.at) (to_z w32 (of_z w32 v)) (subst Is24Bits (sym same) has) c.loop-frame.invariant.in_24_bits;
    }

pub returns-clause-laid : goal.returns-clause-laid
returns-clause-laid c f h =
    laid_samples c.args.width c.args.at c.loop-frame.frame c.args.values.now c.args.wide.now c.loop-frame.wide c.loop-frame.invariant.laid f (omega (arith, h, c.loop-frame-test.false))

pub overflow_mul-frame : goal.overflow_mul-frame
overflow_mul-frame c = grind (arith, elements)

pub overflow_add-frame : goal.overflow_add-frame
overflow_add-frame c = grind (arith, elements)

pub offset_bounds-wide-frame : goal.offset_bounds-wide-frame
offset_bounds-wide-frame c = grind (arith, elements)
