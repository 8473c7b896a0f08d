use Rattle.std.proofs.lemmas.Grind.{elements}
use Rattle.std.proofs.Common.{arith, sym, ap, ◌∙◌, ◌≡◌, ◌+◌, ◌-◌, ◌*◌, ◌<◌, ◌≤◌, ℕ, ℤ, pos, ◌+ℤ◌, List, take, drop, length, to_z, of_z, w64}
use Rattle.std.proofs.lemmas.Int.{ints}
use Rattle.std.proofs.Math.Nat.{mul-le-mul_left}
use Rattle.gain_mix.specs.Gain.{ins_of}
use Rattle.gain_mix.specs.Mix.{frame_at, mixed_frame}
use Rattle.gain_mix.specs.Changes.{matrix_at}
use Rattle.gain_mix.proofs.FrameLemmas.{IsMixed-more}
use Rattle.gain_mix.proofs.SilenceLemmas.{silence, All-silence, frame_at-silence, mixed_frame-silence}
use Rattle.gain_mix.proofs.schedule.mix_span.Goals as goal

pub loop-frame-preserved : goal.loop-frame-preserved
loop-frame-preserved c =
    let i = c.loop-frame.frame in
    let m = c.outs-height.result in
    let n = c.ins-width.result in
    let t = to_z w64 (of_z w64 c.args.t) in
    let matrix = λ (f : ℕ). matrix_at c.args.schedule.now (t +ℤ pos f) in
    let few : c.args.frames * 1 ≤ c.args.frames * length c.args.schedule.now.first = mul-le-mul_left c.args.frames (omega arith) in
    let below : i < 9223372036854775808 = omega arith in
    let time : to_z w64 (of_z w64 (t +ℤ to_z w64 i)) ≡ t +ℤ pos i = omega (arith, ints) in
    let in_force : c.at-matrix.result.now ≡ matrix i = c.at-matrix.ensures.in_force ∙ ap (matrix_at c.args.schedule.now) time in
    let wide : n ≡ ins_of (matrix i) = sym (c.ins-width.ensures.each (t +ℤ pos i)) in
    let e : (i * n + n) - i * n ≡ n = omega arith in
    let part : take ((i * n + n) - i * n) (drop (i * n) c.args.ins.now) ≡ frame_at (ins_of (matrix i)) i c.args.ins.now = ap (λ (w : ℕ). take w (drop (i * n) c.args.ins.now)) e ∙ ap (λ (w : ℕ). frame_at w i c.args.ins.now) wide in
    let long = c.loop-frame.auto.outs ∙ c.requires.outs_len ∙ ap (λ (h : ℕ). c.args.frames * h) (sym c.outs-height.ensures.first) in
    let mixed = c.mix_frame.ensures ∙ ap (λ (v : List ℤ). mixed_frame c.at-matrix.result.now v c.args.shift) part ∙ ap (λ (r : List (List ℤ)). mixed_frame r (frame_at (ins_of (matrix i)) i c.args.ins.now) c.args.shift) in_force in
    IsMixed-more matrix c.args.ins.now c.loop-frame.outs c.mix_frame.new.outs c.args.frames i _ m c.args.shift (λ f. c.outs-height.ensures.each (t +ℤ pos f)) c.loop-frame.invariant c.loop-frame-test.true long mixed

pub returns-then-is_silent-clause-mixed : goal.returns-then-is_silent-clause-mixed
returns-then-is_silent-clause-mixed c f h =
    let rows = matrix_at c.args.schedule.now (c.args.t +ℤ pos f) in
    let n = ins_of rows in
    let m = length rows in
    let width : n ≡ ins_of c.args.schedule.now.first = c.ins-width.ensures.each (c.args.t +ℤ pos f) ∙ c.ins-width.ensures.first in
    let height : m ≡ length c.args.schedule.now.first = c.outs-height.ensures.each (c.args.t +ℤ pos f) ∙ c.outs-height.ensures.first in
    let long : length c.args.ins.now ≡ c.args.frames * n = c.requires.ins_len ∙ ap (λ (w : ℕ). c.args.frames * w) (sym width) in
    let values : c.args.ins.now ≡ silence (c.args.frames * n) = All-silence c.args.ins.now (c.is_silent.ensures c.if-is_silent.true) ∙ ap silence long in
    let samples : c.fill.new.self ≡ silence (c.args.frames * m) = c.fill.ensures.after (λ y e. e) ∙ ap silence (c.requires.outs_len ∙ ap (λ (w : ℕ). c.args.frames * w) (sym height)) in
    ap (frame_at m f) samples
    ∙ frame_at-silence m f c.args.frames h
    ∙ sym (mixed_frame-silence rows n c.args.shift c.requires.shift)
    ∙ ap (λ (v : List ℤ). mixed_frame rows v c.args.shift) (sym (ap (frame_at n f) values ∙ frame_at-silence n f c.args.frames h))

pub slice_bounds-mix_frame-end-in-loop-frame : goal.slice_bounds-mix_frame-end-in-loop-frame
slice_bounds-mix_frame-end-in-loop-frame c = grind (arith, elements)

pub overflow_add-from : goal.overflow_add-from
overflow_add-from c = grind (arith, elements)

pub overflow_add-t : goal.overflow_add-t
overflow_add-t c = grind (arith, elements)

pub overflow_mul-from : goal.overflow_mul-from
overflow_mul-from c = grind (arith, elements)

pub offset_bounds-outs-to : goal.offset_bounds-outs-to
offset_bounds-outs-to c = grind (arith, elements)

pub overflow_mul-to : goal.overflow_mul-to
overflow_mul-to c = grind (arith, elements)

pub overflow_add-to : goal.overflow_add-to
overflow_add-to c = grind (arith, elements)

pub mix_frame-requires-clause-in_24_bits : goal.mix_frame-requires-clause-in_24_bits
mix_frame-requires-clause-in_24_bits c = grind (arith, elements)

pub slice_bounds-mix_frame-end : goal.slice_bounds-mix_frame-end
slice_bounds-mix_frame-end c = grind (arith, elements)

pub offset_bounds-ins-from : goal.offset_bounds-ins-from
offset_bounds-ins-from c = grind (arith, elements)

pub mix_frame-requires-clause-ins_len : goal.mix_frame-requires-clause-ins_len
mix_frame-requires-clause-ins_len c = omega arith

pub mix_frame-requires-clause-outs_len : goal.mix_frame-requires-clause-outs_len
mix_frame-requires-clause-outs_len c = omega arith

pub returns-then-is_silent-clause-outs : goal.returns-then-is_silent-clause-outs
returns-then-is_silent-clause-outs c = omega arith

pub returns-clause-outs : goal.returns-clause-outs
returns-clause-outs c = omega arith

pub returns-then-is_silent-clause-ins : goal.returns-then-is_silent-clause-ins
returns-then-is_silent-clause-ins c = omega arith

pub overflow_cast-frame : goal.overflow_cast-frame
overflow_cast-frame c = grind (arith, elements)
