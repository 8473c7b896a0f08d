use Rattle.std.proofs.lemmas.Grind.{common_steps}
use Rattle.std.proofs.Common.{◌≡◌, ◌*ℤ◌, ◌*◌, ◌≤◌, pos, true, false, to_z, of_z, w64, arith, ap, ◌∙◌}
use Rattle.std.proofs.lemmas.Int.{ints}
use Rattle.std.proofs.lemmas.Nat.{mul-le}
use Rattle.rtp_stream.proofs.FateLemmas.{reach_fault_is}
use Rattle.rtp_stream.proofs.arrival.reach_fault.Goals as goal

pub overflow_add-earliest : goal.overflow_add-earliest
overflow_add-earliest c =
    let fl : c.from.result ≡ pos c.args.spec.now.latency = c.from.ensures ∙ ap pos c.latency.ensures.value in
    let wide : to_z w64 (of_z w64 c.from-2.result) ≡ pos c.args.spec.now.window = omega (arith, ints, c.from-2.ensures, c.window.ensures.value) in
    let few : to_z w64 (of_z w64 c.from-3.result) ≡ pos c.args.spec.now.frames = omega (arith, ints, c.from-3.ensures, c.frames.ensures.value) in
    let x : (to_z w64 (of_z w64 c.from-2.result) *ℤ to_z w64 (of_z w64 c.from-3.result)) ≡ pos (c.args.spec.now.window * c.args.spec.now.frames) =
    ap (λ z. z *ℤ to_z w64 (of_z w64 c.from-3.result)) wide ∙ ap (λ z. pos c.args.spec.now.window *ℤ z) few in
    let small : c.args.spec.now.window * c.args.spec.now.frames ≤ 16384 * 192 = mul-le c.args.spec.now.window c.args.spec.now.frames 16384 192 c.window.ensures.sound.narrow c.window.ensures.sound.few_frames in
    let latency = c.latency.ensures.sound.small_latency in
    grind (arith, ints, fl, x, small, latency, c.requires.low, c.requires.high)

pub returns-then-media-earliest-2 : goal.returns-then-media-earliest-2
returns-then-media-earliest-2 c =
    let fl : c.from.result ≡ pos c.args.spec.now.latency = c.from.ensures ∙ ap pos c.latency.ensures.value in
    let wide : to_z w64 (of_z w64 c.from-2.result) ≡ pos c.args.spec.now.window = omega (arith, ints, c.from-2.ensures, c.window.ensures.value) in
    let few : to_z w64 (of_z w64 c.from-3.result) ≡ pos c.args.spec.now.frames = omega (arith, ints, c.from-3.ensures, c.frames.ensures.value) in
    let x : (to_z w64 (of_z w64 c.from-2.result) *ℤ to_z w64 (of_z w64 c.from-3.result)) ≡ pos (c.args.spec.now.window * c.args.spec.now.frames) =
    ap (λ z. z *ℤ to_z w64 (of_z w64 c.from-3.result)) wide ∙ ap (λ z. pos c.args.spec.now.window *ℤ z) few in
    let small : c.args.spec.now.window * c.args.spec.now.frames ≤ 16384 * 192 = mul-le c.args.spec.now.window c.args.spec.now.frames 16384 192 c.window.ensures.sound.narrow c.window.ensures.sound.few_frames in
    let latency = c.latency.ensures.sound.small_latency in
    reach_fault_is c.args.spec.now c.args.time c.args.media false true (grind (arith, ints, c.if-media-earliest.false, fl)) (grind (arith, ints, c.if-media-earliest-2.true, fl, x, small, latency))

pub returns : goal.returns
returns c =
    let fl : c.from.result ≡ pos c.args.spec.now.latency = c.from.ensures ∙ ap pos c.latency.ensures.value in
    let wide : to_z w64 (of_z w64 c.from-2.result) ≡ pos c.args.spec.now.window = omega (arith, ints, c.from-2.ensures, c.window.ensures.value) in
    let few : to_z w64 (of_z w64 c.from-3.result) ≡ pos c.args.spec.now.frames = omega (arith, ints, c.from-3.ensures, c.frames.ensures.value) in
    let x : (to_z w64 (of_z w64 c.from-2.result) *ℤ to_z w64 (of_z w64 c.from-3.result)) ≡ pos (c.args.spec.now.window * c.args.spec.now.frames) =
    ap (λ z. z *ℤ to_z w64 (of_z w64 c.from-3.result)) wide ∙ ap (λ z. pos c.args.spec.now.window *ℤ z) few in
    let small : c.args.spec.now.window * c.args.spec.now.frames ≤ 16384 * 192 = mul-le c.args.spec.now.window c.args.spec.now.frames 16384 192 c.window.ensures.sound.narrow c.window.ensures.sound.few_frames in
    let latency = c.latency.ensures.sound.small_latency in
    reach_fault_is c.args.spec.now c.args.time c.args.media false false (grind (arith, ints, c.if-media-earliest.false, fl)) (grind (arith, ints, c.if-media-earliest-2.false, fl, x, small, latency))

pub returns-then-media-earliest : goal.returns-then-media-earliest
returns-then-media-earliest c = grind (arith, common_steps)
