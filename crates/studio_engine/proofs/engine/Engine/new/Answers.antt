use Rattle.std.proofs.Common.{◌≡◌, arith, to_z, of_z, w64}
use Rattle.std.proofs.lemmas.Int.{ints}
use Rattle.studio_engine.proofs.EngineLemmas.{engine_new, session_new}
use Rattle.studio_engine.proofs.engine.Engine.new.Goals as goal

pub returns-clause-stands : goal.returns-clause-stands
returns-clause-stands c =
    let sound = c.open_at.ensures.sound in
    let low = sound.open_low in
    let high = sound.open_high in
    let value = c.open_at.ensures.value in
    let time : to_z w64 (of_z w64 c.open_at.result) ≡ c.args.spec.now.open_at = omega (arith, ints, value, low, high) in
    session_new c.args.spec.now c.in_ok-mixer.mixer c.in_ok-cursors.cursors (to_z w64 (of_z w64 c.open_at.result)) c.is_runnable.ensures c.in_ok-mixer.ensures.stands (record { capacities = c.in_ok-mixer.ensures.capacities }) c.in_ok-cursors.ensures.new c.in_ok-cursors.ensures.none time

pub invariant_of-result : goal.invariant_of-result
invariant_of-result c =
    let sound = c.open_at.ensures.sound in
    let low = sound.open_low in
    let high = sound.open_high in
    let value = c.open_at.ensures.value in
    let time : to_z w64 (of_z w64 c.open_at.result) ≡ c.args.spec.now.open_at = omega (arith, ints, value, low, high) in
    engine_new c.args.spec.now c.in_ok-mixer.mixer c.in_ok-cursors.cursors (to_z w64 (of_z w64 c.open_at.result)) sound c.in_ok-mixer.ensures.stands c.in_ok-cursors.ensures.new c.in_ok-cursors.ensures.none time
