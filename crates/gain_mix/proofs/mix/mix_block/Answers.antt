use Rattle.std.proofs.lemmas.Grind.{elements}
use Rattle.std.proofs.Common.{arith, sym, ap, ◌∙◌, ◌≡◌, ◌+◌, ◌-◌, ◌*◌, ℕ, ℤ, List, take, drop}
use Rattle.gain_mix.specs.Gain.{ins_of}
use Rattle.gain_mix.specs.Mix.{frame_at, mixed_frame}
use Rattle.gain_mix.proofs.FrameLemmas.{IsMixed-more}
use Rattle.gain_mix.proofs.mix.mix_block.Goals as goal

pub loop-frame-preserved : goal.loop-frame-preserved
loop-frame-preserved c =
    let i = c.loop-frame.frame in
    let m = c.outs-height.result in
    let n = c.ins-width.result in
    let wide : n ≡ ins_of c.args.matrix.now = c.ins-width.ensures.gains in
    let e : (i * n + n) - i * n ≡ n = omega arith in
    let part : take ((i * n + n) - i * n) (drop (i * n) c.args.ins.now) ≡ frame_at (ins_of c.args.matrix.now) i c.args.ins.now = ap (λ (w : ℕ). take w (drop (i * n) c.args.ins.now)) e ∙ ap (λ (w : ℕ). frame_at w i c.args.ins.now) wide in
    IsMixed-more (λ _. c.args.matrix.now) c.args.ins.now c.loop-frame.outs c.mix_frame.new.outs c.args.frames i _ m c.args.shift (λ _. sym c.outs-height.ensures.rows) c.loop-frame.invariant (omega arith) (c.loop-frame.auto.outs ∙ c.requires.outs_len ∙ ap (λ (h : ℕ). c.args.frames * h) (sym c.outs-height.ensures.rows)) (c.mix_frame.ensures ∙ ap (λ (v : List ℤ). mixed_frame c.args.matrix.now v c.args.shift) part)

pub overflow_add-to : goal.overflow_add-to
overflow_add-to c = grind (arith, elements)

pub slice_bounds-mix_frame-end-in-loop-frame : goal.slice_bounds-mix_frame-end-in-loop-frame
slice_bounds-mix_frame-end-in-loop-frame c = grind (arith, elements)

pub offset_bounds-ins-from : goal.offset_bounds-ins-from
offset_bounds-ins-from c = grind (arith, elements)

pub overflow_mul-from : goal.overflow_mul-from
overflow_mul-from c = grind (arith, elements)

pub overflow_add-from : goal.overflow_add-from
overflow_add-from c = grind (arith, elements)

pub mix_frame-requires-clause-in_24_bits : goal.mix_frame-requires-clause-in_24_bits
mix_frame-requires-clause-in_24_bits c = grind (arith, elements)

pub offset_bounds-outs-to : goal.offset_bounds-outs-to
offset_bounds-outs-to c = grind (arith, elements)

pub overflow_mul-to : goal.overflow_mul-to
overflow_mul-to c = grind (arith, elements)
