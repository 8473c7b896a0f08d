use Rattle.std.proofs.lemmas.Grind.{elements}
use Rattle.std.proofs.Common.{◌≡◌, ◌+◌, ◌-◌, ◌*◌, take, drop, sym, ap, subst, ◌∙◌, arith, All}
use Rattle.gain_mix.specs.Mix.{Is24Bits}
use Rattle.std.proofs.lemmas.List.Elements.{All-take, All-drop}
use Rattle.studio_mix.proofs.LayLemmas.{laid_part, All-put_mid}
use Rattle.studio_mix.proofs.interleave.lay_frames.Goals as goal

pub loop-frame-preserved : goal.loop-frame-preserved
loop-frame-preserved c =
    let i = c.loop-frame.frame in
    let w = c.args.width in
    let n = c.args.channels in
    let values = c.args.values.now in
    let short : i * n + n - i * n ≡ n = omega arith in
    let same : i * w + c.args.at + n - (i * w + c.args.at) ≡ n = omega arith in
    let copied : c.copy_from_slice.new.self ≡ take n (drop (i * n) values) = c.copy_from_slice.ensures.after ∙ ap (λ k. take k (drop (i * n) values)) short in
    record {
      laid = laid_part c.args.frames w c.args.at n i _ values c.args.wide.now c.loop-frame.wide c.copy_from_slice.new.self same c.loop-frame-test.true c.requires.within (c.loop-frame.auto.wide ∙ c.requires.wide) c.requires.values copied c.loop-frame.invariant.laid;
      in_24_bits = All-put_mid Is24Bits (i * w + c.args.at) _ c.loop-frame.wide c.copy_from_slice.new.self c.loop-frame.invariant.in_24_bits
          (subst (All Is24Bits) (sym copied) (All-take Is24Bits n (drop (i * n) values) (All-drop Is24Bits (i * n) values c.requires.in_24_bits)));
    }

pub overflow_add-to-in-loop-frame : goal.overflow_add-to-in-loop-frame
overflow_add-to-in-loop-frame c = grind (arith, elements)

pub offset_bounds-values-from : goal.offset_bounds-values-from
offset_bounds-values-from c = grind (arith, elements)

pub slice_bounds-copy_from_slice-end : goal.slice_bounds-copy_from_slice-end
slice_bounds-copy_from_slice-end c = grind (arith, elements)

pub overflow_add-from : goal.overflow_add-from
overflow_add-from c = grind (arith, elements)
