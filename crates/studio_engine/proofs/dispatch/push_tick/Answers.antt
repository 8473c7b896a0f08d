use Rattle.std.proofs.Common.{◌<◌, length, ap, subst, ◌∙◌, arith, to_z, of_z, w64}
use Rattle.std.proofs.lemmas.Int.{to_z-of_z}
use Rattle.studio_session.specs.PushedEvents.{AreHanded}
use Rattle.studio_session.specs.Cursor.{CursorState}
use Rattle.studio_session.specs.Event.{Tick}
use Rattle.studio_engine.proofs.HandLemmas.{come_handed, handed_all, handed_more, handed_none, unhanded}
use Rattle.studio_engine.proofs.dispatch.push_tick.Goals as goal

pub loop-number-init : goal.loop-number-init
loop-number-init c = handed_none (Tick (to_z w64 (of_z w64 c.args.now))) c.args.cursors.now

pub push_tick-requires-clause-settled : goal.push_tick-requires-clause-settled
push_tick-requires-clause-settled c =
    let cursors = c.loop-number.cursors in
    let i = c.loop-number.number in
    let long = c.loop-number.auto.cursors in
    let within : i < length cursors = omega (arith, c.loop-number-test.true, long) in
    let item = c.index-cursors-number.result in
    let first : i < length c.args.cursors.now = omega (arith, within, long) in
    ap (λ (s : CursorState). s.reading) (unhanded (Tick (to_z w64 (of_z w64 c.args.now))) c.args.cursors.now cursors i item c.loop-number.invariant within) ∙ c.requires.idle i item first

pub push_tick-requires-clause-place : goal.push_tick-requires-clause-place
push_tick-requires-clause-place c =
    let cursors = c.loop-number.cursors in
    let i = c.loop-number.number in
    let long = c.loop-number.auto.cursors in
    let within : i < length cursors = omega (arith, c.loop-number-test.true, long) in
    let item = c.index-cursors-number.result in
    let first : i < length c.args.cursors.now = omega (arith, within, long) in
    let few = c.requires.few in
    let place = ap (λ (s : CursorState). s.place) (unhanded (Tick (to_z w64 (of_z w64 c.args.now))) c.args.cursors.now cursors i item c.loop-number.invariant within) ∙ c.requires.come i item first in
    omega (arith, few, place)

pub loop-number-preserved : goal.loop-number-preserved
loop-number-preserved c =
    let cursors = c.loop-number.cursors in
    let i = c.loop-number.number in
    let long = c.loop-number.auto.cursors in
    let within : i < length cursors = omega (arith, c.loop-number-test.true, long) in
    handed_more (Tick (to_z w64 (of_z w64 c.args.now))) c.args.cursors.now cursors i c.index-cursors-number.result c.push_tick.new.self c.loop-number.invariant within (c.push_tick.ensures.handed i)

pub returns-clause-handed : goal.returns-clause-handed
returns-clause-handed c =
    let end = c.loop-number.auto.number-end in
    let long = c.loop-number.auto.cursors in
    let same = to_z-of_z w64 c.args.now c.ranges.now in
    subst (λ u. AreHanded (Tick u) c.args.cursors.now c.loop-number.cursors (length c.args.cursors.now)) same
    (handed_all (Tick (to_z w64 (of_z w64 c.args.now))) c.args.cursors.now c.loop-number.cursors c.loop-number.number c.loop-number.invariant (omega (arith, c.loop-number-test.false, long, end)) (omega (arith, long, end)))

pub returns-clause-come : goal.returns-clause-come
returns-clause-come c =
    let end = c.loop-number.auto.number-end in
    let long = c.loop-number.auto.cursors in
    come_handed (Tick (to_z w64 (of_z w64 c.args.now))) c.args.cursors.now c.loop-number.cursors c.args.count c.requires.come
    (handed_all (Tick (to_z w64 (of_z w64 c.args.now))) c.args.cursors.now c.loop-number.cursors c.loop-number.number c.loop-number.invariant (omega (arith, c.loop-number-test.false, long, end)) (omega (arith, long, end)))
