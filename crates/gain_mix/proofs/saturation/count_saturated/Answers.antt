use Rattle.std.proofs.lemmas.Grind.{elements}
use Rattle.std.proofs.Common.{◌≡◌, ℕ, ℤ, pos, ◌<◌, ◌≤◌, ◌+◌, ◌-◌, ◌*◌, ◌+ℤ◌, ◌∙◌, refl, sym, ap, subst, arith, add-one, List, length, take, drop, to_z, of_z, w64}
use Rattle.std.proofs.lemmas.Int.{ints}
use Rattle.std.proofs.Math.Nat.{mul-le-mul_left}
use Rattle.gain_mix.specs.Gain.{ins_of}
use Rattle.gain_mix.specs.Changes.{matrix_at}
use Rattle.gain_mix.specs.Mix.{frame_at, mixed_frame}
use Rattle.gain_mix.specs.Saturated.{AreAdded, saturated_at, saturated_count}
use Rattle.gain_mix.proofs.SaturatedLemmas.{adds_none, adds_both, adds_same}
use Rattle.gain_mix.proofs.saturation.count_saturated.Goals as goal

pub loop-frame-init : goal.loop-frame-init
loop-frame-init c = adds_none c.args.counts.now (λ output. 0) (λ k. refl) c.type_inv.counts

-- the part of a list that is frame `i`
part_of : (i n w : ℕ) (xs : List ℤ) → n ≡ w → take ((i * n + n) - i * n) (drop (i * n) xs) ≡ frame_at w i xs
part_of i n w xs wide =
    let e : (i * n + n) - i * n ≡ n = omega arith in
    ap (λ (k : ℕ). take k (drop (i * n) xs)) e ∙ ap (λ (k : ℕ). frame_at k i xs) wide

pub count_frame-requires-clause-mixed : goal.count_frame-requires-clause-mixed
count_frame-requires-clause-mixed c =
    let i = c.loop-frame.frame in
    let matrix = λ (f : ℕ). matrix_at c.args.schedule.now (c.args.t +ℤ pos f) in
    let few : c.args.frames * 1 ≤ c.args.frames * length c.args.schedule.now.first = mul-le-mul_left c.args.frames (omega arith) in
    let below : i < 9223372036854775808 = omega arith in
    let stored : to_z w64 (of_z w64 c.args.t) ≡ c.args.t = omega (arith, ints, c.requires.not_early, c.requires.not_late) in
    let time : to_z w64 (of_z w64 (to_z w64 (of_z w64 c.args.t) +ℤ to_z w64 i)) ≡ c.args.t +ℤ pos i = omega (arith, ints, stored) in
    let in_force : c.at-matrix.result.now ≡ matrix i = c.at-matrix.ensures.in_force ∙ ap (matrix_at c.args.schedule.now) time in
    let wide = sym (c.ins-width.ensures.each (c.args.t +ℤ pos i)) in
    let high = sym (c.outs-height.ensures.each (c.args.t +ℤ pos i)) in
    part_of i c.outs-height.result (length (matrix i)) c.args.outs.now high
    ∙ c.requires.mixed i c.loop-frame-test.true
    ∙ ap (λ v. mixed_frame (matrix i) v c.args.shift) (sym (part_of i c.ins-width.result (ins_of (matrix i)) c.args.ins.now wide))
    ∙ ap (λ r. mixed_frame r (take ((i * c.ins-width.result + c.ins-width.result) - i * c.ins-width.result) (drop (i * c.ins-width.result) c.args.ins.now)) c.args.shift) (sym in_force)

pub loop-frame-preserved : goal.loop-frame-preserved
loop-frame-preserved c =
    let i = c.loop-frame.frame in
    let n = c.ins-width.result in
    let t = to_z w64 (of_z w64 c.args.t) in
    let s = c.args.shift in
    let matrix = λ (f : ℕ). matrix_at c.args.schedule.now (t +ℤ pos f) in
    let few : c.args.frames * 1 ≤ c.args.frames * length c.args.schedule.now.first = mul-le-mul_left c.args.frames (omega arith) in
    let below : i < 9223372036854775808 = omega arith in
    let time : to_z w64 (of_z w64 (t +ℤ to_z w64 i)) ≡ t +ℤ pos i = omega (arith, ints) in
    let in_force : c.at-matrix.result.now ≡ matrix i = c.at-matrix.ensures.in_force ∙ ap (matrix_at c.args.schedule.now) time in
    let wide : n ≡ ins_of (matrix i) = sym (c.ins-width.ensures.each (t +ℤ pos i)) in
    let values = take ((i * n + n) - i * n) (drop (i * n) c.args.ins.now) in
    let before : ℕ → ℕ = λ output. saturated_count matrix c.args.ins.now s output i in
    let here : (output : ℕ) → saturated_at c.at-matrix.result.now values s output ≡ saturated_at (matrix i) (frame_at (ins_of (matrix i)) i c.args.ins.now) s output =
    λ output. ap (λ r. saturated_at r values s output) in_force ∙ ap (λ v. saturated_at (matrix i) v s output) (part_of i n (ins_of (matrix i)) c.args.ins.now wide) in
    adds_same c.args.counts.now c.count_frame.new.counts
    (λ output. before output + saturated_at c.at-matrix.result.now values s output)
    (λ output. saturated_count matrix c.args.ins.now s output (i + 1))
    (adds_both c.args.counts.now c.loop-frame.counts c.count_frame.new.counts before (saturated_at c.at-matrix.result.now values s) c.loop-frame.invariant c.count_frame.ensures)
    (λ output. ap (λ x. before output + x) (here output) ∙ ap (saturated_count matrix c.args.ins.now s output) (sym (add-one i)))

pub returns : goal.returns
returns c =
    let stored : to_z w64 (of_z w64 c.args.t) ≡ c.args.t = omega (arith, ints, c.requires.not_early, c.requires.not_late) in
    let all : c.loop-frame.frame ≡ c.args.frames = let end = c.loop-frame.auto.frame-end in omega (arith, end, c.loop-frame-test.false) in
    subst (λ n. AreAdded c.args.counts.now c.loop-frame.counts (λ output. saturated_count (λ f. matrix_at c.args.schedule.now (c.args.t +ℤ pos f)) c.args.ins.now c.args.shift output n)) all
    (subst (λ t. AreAdded c.args.counts.now c.loop-frame.counts (λ output. saturated_count (λ f. matrix_at c.args.schedule.now (t +ℤ pos f)) c.args.ins.now c.args.shift output c.loop-frame.frame)) stored
    c.loop-frame.invariant)

pub offset_bounds-ins-from : goal.offset_bounds-ins-from
offset_bounds-ins-from c = grind (arith, elements)

pub offset_bounds-outs-to : goal.offset_bounds-outs-to
offset_bounds-outs-to c = grind (arith, elements)

pub overflow_add-t : goal.overflow_add-t
overflow_add-t c = grind (arith, elements)

pub overflow_add-from : goal.overflow_add-from
overflow_add-from c = grind (arith, elements)

pub overflow_mul-to : goal.overflow_mul-to
overflow_mul-to c = grind (arith, elements)

pub count_frame-requires-clause-in_24_bits : goal.count_frame-requires-clause-in_24_bits
count_frame-requires-clause-in_24_bits c = grind (arith, elements)

pub slice_bounds-count_frame-end : goal.slice_bounds-count_frame-end
slice_bounds-count_frame-end c = grind (arith, elements)

pub overflow_add-to : goal.overflow_add-to
overflow_add-to c = grind (arith, elements)

pub overflow_mul-from : goal.overflow_mul-from
overflow_mul-from c = grind (arith, elements)

pub slice_bounds-count_frame-end-in-loop-frame : goal.slice_bounds-count_frame-end-in-loop-frame
slice_bounds-count_frame-end-in-loop-frame c = grind (arith, elements)

pub count_frame-requires-clause-counts_len : goal.count_frame-requires-clause-counts_len
count_frame-requires-clause-counts_len c = omega arith

pub count_frame-requires-clause-ins_len : goal.count_frame-requires-clause-ins_len
count_frame-requires-clause-ins_len c = omega arith

pub overflow_cast-frame : goal.overflow_cast-frame
overflow_cast-frame c = grind (arith, elements)
