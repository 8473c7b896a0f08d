use Rattle.std.proofs.lemmas.Grind.{elements}
use Rattle.std.proofs.Common.{◌≡◌, ◌+◌, ◌*◌, ℕ, ℤ, pos, get_or, set, sym, subst, ◌∙◌, arith, to_z, of_z, w32}
use Rattle.std.proofs.lemmas.List.Elements.{All-set}
use Rattle.gain_mix.specs.Mix.{Is24Bits}
use Rattle.studio_mix.proofs.LayLemmas.{laid_pair, row_end, sample_in_32}
use Rattle.studio_mix.proofs.interleave.lay_pairs.Goals as goal

pub loop-frame-preserved : goal.loop-frame-preserved
loop-frame-preserved c =
    let i = c.loop-frame.frame in
    let values = c.args.values.now in
    let below = row_end i c.args.frames 2 c.loop-frame-test.true in
    let v : ℤ = get_or values (i * 2) (pos 0) in
    let u : ℤ = get_or values (i * 2 + 1) (pos 0) in
    let v_has : Is24Bits v = c.requires.in_24_bits (i * 2) (pos 0) (omega (arith, c.requires.values, below)) in
    let u_has : Is24Bits u = c.requires.in_24_bits (i * 2 + 1) (pos 0) (omega (arith, c.requires.values, below)) in
    let v_same : to_z w32 (of_z w32 v) ≡ v = sample_in_32 v v_has in
    let u_same : to_z w32 (of_z w32 u) ≡ u = sample_in_32 u u_has in
    let to : ℕ = i * c.args.width + c.args.at in
    record {
      laid = laid_pair c.args.frames c.args.width c.args.at i values c.args.wide.now c.loop-frame.wide (to_z w32 (of_z w32 v)) (to_z w32 (of_z w32 u)) (pos 0) c.loop-frame-test.true c.requires.within (c.loop-frame.auto.wide ∙ c.requires.wide) c.requires.values v_same u_same c.loop-frame.invariant.laid;
      in_24_bits = All-set Is24Bits (set c.loop-frame.wide to (to_z w32 (of_z w32 v))) (to + 1) (to_z w32 (of_z w32 u)) (subst Is24Bits (sym u_same) u_has)
          (All-set Is24Bits c.loop-frame.wide to (to_z w32 (of_z w32 v)) (subst Is24Bits (sym v_same) v_has) c.loop-frame.invariant.in_24_bits);
    }

pub bounds-wide-place-in-loop-frame : goal.bounds-wide-place-in-loop-frame
bounds-wide-place-in-loop-frame c = grind (arith, elements)

pub bounds-wide-place : goal.bounds-wide-place
bounds-wide-place c = grind (arith, elements)

pub offset_bounds-wide-place-in-loop-frame : goal.offset_bounds-wide-place-in-loop-frame
offset_bounds-wide-place-in-loop-frame c = grind (arith, elements)

pub overflow_add-place-in-loop-frame : goal.overflow_add-place-in-loop-frame
overflow_add-place-in-loop-frame c = grind (arith, elements)

pub offset_bounds-wide-place : goal.offset_bounds-wide-place
offset_bounds-wide-place c = grind (arith, elements)
