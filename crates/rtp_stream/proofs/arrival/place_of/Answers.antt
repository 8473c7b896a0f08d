use Rattle.std.proofs.Common.{◌≡◌, ◌-ℤ◌, ◌+ℤ◌, ◌*ℤ◌, true, false, to_z, of_z, w64, FitsSigned, arith, sym, refl, ◌∙◌}
use Rattle.std.proofs.lemmas.Int.{ints}
use Rattle.std.specs.Prelude.{nat_eq}
use Rattle.std.proofs.lemmas.Bool.Decides.{nat_tests}
use Rattle.rtp_stream.specs.PacketRef.{packet_of}
use Rattle.rtp_stream.specs.Anchor.{media_time_of}
use Rattle.rtp_stream.specs.Grid.{of_width}
use Rattle.rtp_stream.proofs.FateLemmas.{place_is, shift_is, shifted}
use Rattle.rtp_stream.proofs.arrival.place_of.Goals as goal

pub overflow_add-there : goal.overflow_add-there
overflow_add-there c =
    let shift = shift_is c.number_of-number.result c.args.next c.args.spec.now.frames c.from.result c.requires.high c.number_of-number.ensures.low (omega (arith, c.number_of-number.ensures.high)) c.frames.ensures.sound.few_frames (omega (arith, ints, c.from.ensures, c.frames.ensures.value)) in
    let small : FitsSigned w64 (to_z w64 (of_z w64 (to_z w64 c.number_of-number.result -ℤ to_z w64 c.args.next)) *ℤ to_z w64 (of_z w64 c.from.result)) = rw shift.is (omega (arith, ints, shift.low, shift.high)) in
    omega (arith, ints, shift.is, shift.low, shift.high, c.requires.media_low, c.requires.media_high)

pub is_in_step-requires-clause-low : goal.is_in_step-requires-clause-low
is_in_step-requires-clause-low c =
    let shift = shift_is c.number_of-number.result c.args.next c.args.spec.now.frames c.from.result c.requires.high c.number_of-number.ensures.low (omega (arith, c.number_of-number.ensures.high)) c.frames.ensures.sound.few_frames (omega (arith, ints, c.from.ensures, c.frames.ensures.value)) in
    let small : FitsSigned w64 (to_z w64 (of_z w64 (to_z w64 c.number_of-number.result -ℤ to_z w64 c.args.next)) *ℤ to_z w64 (of_z w64 c.from.result)) = rw shift.is (omega (arith, ints, shift.low, shift.high)) in
    omega (arith, ints, shift.is, shift.low, shift.high, c.requires.media_low, c.requires.media_high)

pub is_in_step-requires-clause-high : goal.is_in_step-requires-clause-high
is_in_step-requires-clause-high c =
    let shift = shift_is c.number_of-number.result c.args.next c.args.spec.now.frames c.from.result c.requires.high c.number_of-number.ensures.low (omega (arith, c.number_of-number.ensures.high)) c.frames.ensures.sound.few_frames (omega (arith, ints, c.from.ensures, c.frames.ensures.value)) in
    let small : FitsSigned w64 (to_z w64 (of_z w64 (to_z w64 c.number_of-number.result -ℤ to_z w64 c.args.next)) *ℤ to_z w64 (of_z w64 c.from.result)) = rw shift.is (omega (arith, ints, shift.low, shift.high)) in
    omega (arith, ints, shift.is, shift.low, shift.high, c.requires.media_low, c.requires.media_high)

pub returns-then-not-is_in_step : goal.returns-then-not-is_in_step
returns-then-not-is_in_step c =
    let shift = shift_is c.number_of-number.result c.args.next c.args.spec.now.frames c.from.result c.requires.high c.number_of-number.ensures.low (omega (arith, c.number_of-number.ensures.high)) c.frames.ensures.sound.few_frames (omega (arith, ints, c.from.ensures, c.frames.ensures.value)) in
    let small : FitsSigned w64 (to_z w64 (of_z w64 (to_z w64 c.number_of-number.result -ℤ to_z w64 c.args.next)) *ℤ to_z w64 (of_z w64 c.from.result)) = rw shift.is (omega (arith, ints, shift.low, shift.high)) in
    let there : to_z w64 (of_z w64 (to_z w64 (of_z w64 c.args.media) +ℤ to_z w64 (of_z w64 (to_z w64 (of_z w64 (to_z w64 c.number_of-number.result -ℤ to_z w64 c.args.next)) *ℤ to_z w64 (of_z w64 c.from.result))))) ≡ media_time_of c.args.spec.now c.args.anchor.now c.number_of-number.result = omega (arith, ints, shift.is, shift.low, shift.high, c.requires.media_low, c.requires.media_high, c.requires.media_is, shifted c.args.spec.now c.args.anchor.now c.args.next c.number_of-number.result) in
    let grid = c.is_in_step.ensures c.args.spec.now c.number_of-number.result there in
    let source : nat_eq (packet_of c.args.packet.now).ssrc c.args.anchor.now.source ≡ true = grind (arith, nat_tests, c.if-packet-anchor.false) in
    place_is (of_width c.args.spec.now c.args.width) c.args.anchor.now c.args.next (packet_of c.args.packet.now) c.number_of-number.result true false _ _ c.number_of-number.ensures.value source
    (sym grid ∙ c.if-not-is_in_step.true)
    (refl)
    (refl)

pub returns-then-number-next : goal.returns-then-number-next
returns-then-number-next c =
    let shift = shift_is c.number_of-number.result c.args.next c.args.spec.now.frames c.from.result c.requires.high c.number_of-number.ensures.low (omega (arith, c.number_of-number.ensures.high)) c.frames.ensures.sound.few_frames (omega (arith, ints, c.from.ensures, c.frames.ensures.value)) in
    let small : FitsSigned w64 (to_z w64 (of_z w64 (to_z w64 c.number_of-number.result -ℤ to_z w64 c.args.next)) *ℤ to_z w64 (of_z w64 c.from.result)) = rw shift.is (omega (arith, ints, shift.low, shift.high)) in
    let there : to_z w64 (of_z w64 (to_z w64 (of_z w64 c.args.media) +ℤ to_z w64 (of_z w64 (to_z w64 (of_z w64 (to_z w64 c.number_of-number.result -ℤ to_z w64 c.args.next)) *ℤ to_z w64 (of_z w64 c.from.result))))) ≡ media_time_of c.args.spec.now c.args.anchor.now c.number_of-number.result = omega (arith, ints, shift.is, shift.low, shift.high, c.requires.media_low, c.requires.media_high, c.requires.media_is, shifted c.args.spec.now c.args.anchor.now c.args.next c.number_of-number.result) in
    let grid = c.is_in_step.ensures c.args.spec.now c.number_of-number.result there in
    let source : nat_eq (packet_of c.args.packet.now).ssrc c.args.anchor.now.source ≡ true = grind (arith, nat_tests, c.if-packet-anchor.false) in
    place_is (of_width c.args.spec.now c.args.width) c.args.anchor.now c.args.next (packet_of c.args.packet.now) c.number_of-number.result true true true _ c.number_of-number.ensures.value source
    (sym grid ∙ c.if-not-is_in_step.false)
    (grind (arith, nat_tests, c.if-number-next.true))
    (refl)

pub returns-then-number-next-2 : goal.returns-then-number-next-2
returns-then-number-next-2 c =
    let shift = shift_is c.number_of-number.result c.args.next c.args.spec.now.frames c.from.result c.requires.high c.number_of-number.ensures.low (omega (arith, c.number_of-number.ensures.high)) c.frames.ensures.sound.few_frames (omega (arith, ints, c.from.ensures, c.frames.ensures.value)) in
    let small : FitsSigned w64 (to_z w64 (of_z w64 (to_z w64 c.number_of-number.result -ℤ to_z w64 c.args.next)) *ℤ to_z w64 (of_z w64 c.from.result)) = rw shift.is (omega (arith, ints, shift.low, shift.high)) in
    let there : to_z w64 (of_z w64 (to_z w64 (of_z w64 c.args.media) +ℤ to_z w64 (of_z w64 (to_z w64 (of_z w64 (to_z w64 c.number_of-number.result -ℤ to_z w64 c.args.next)) *ℤ to_z w64 (of_z w64 c.from.result))))) ≡ media_time_of c.args.spec.now c.args.anchor.now c.number_of-number.result = omega (arith, ints, shift.is, shift.low, shift.high, c.requires.media_low, c.requires.media_high, c.requires.media_is, shifted c.args.spec.now c.args.anchor.now c.args.next c.number_of-number.result) in
    let grid = c.is_in_step.ensures c.args.spec.now c.number_of-number.result there in
    let source : nat_eq (packet_of c.args.packet.now).ssrc c.args.anchor.now.source ≡ true = grind (arith, nat_tests, c.if-packet-anchor.false) in
    place_is (of_width c.args.spec.now c.args.width) c.args.anchor.now c.args.next (packet_of c.args.packet.now) c.number_of-number.result true true false false c.number_of-number.ensures.value source
    (sym grid ∙ c.if-not-is_in_step.false)
    (grind (arith, nat_tests, c.if-number-next.false))
    (grind (arith, nat_tests, c.if-number-next-2.true))

pub returns : goal.returns
returns c =
    let shift = shift_is c.number_of-number.result c.args.next c.args.spec.now.frames c.from.result c.requires.high c.number_of-number.ensures.low (omega (arith, c.number_of-number.ensures.high)) c.frames.ensures.sound.few_frames (omega (arith, ints, c.from.ensures, c.frames.ensures.value)) in
    let small : FitsSigned w64 (to_z w64 (of_z w64 (to_z w64 c.number_of-number.result -ℤ to_z w64 c.args.next)) *ℤ to_z w64 (of_z w64 c.from.result)) = rw shift.is (omega (arith, ints, shift.low, shift.high)) in
    let there : to_z w64 (of_z w64 (to_z w64 (of_z w64 c.args.media) +ℤ to_z w64 (of_z w64 (to_z w64 (of_z w64 (to_z w64 c.number_of-number.result -ℤ to_z w64 c.args.next)) *ℤ to_z w64 (of_z w64 c.from.result))))) ≡ media_time_of c.args.spec.now c.args.anchor.now c.number_of-number.result = omega (arith, ints, shift.is, shift.low, shift.high, c.requires.media_low, c.requires.media_high, c.requires.media_is, shifted c.args.spec.now c.args.anchor.now c.args.next c.number_of-number.result) in
    let grid = c.is_in_step.ensures c.args.spec.now c.number_of-number.result there in
    let source : nat_eq (packet_of c.args.packet.now).ssrc c.args.anchor.now.source ≡ true = grind (arith, nat_tests, c.if-packet-anchor.false) in
    place_is (of_width c.args.spec.now c.args.width) c.args.anchor.now c.args.next (packet_of c.args.packet.now) c.number_of-number.result true true false true c.number_of-number.ensures.value source
    (sym grid ∙ c.if-not-is_in_step.false)
    (grind (arith, nat_tests, c.if-number-next.false))
    (grind (arith, nat_tests, c.if-number-next-2.false))
