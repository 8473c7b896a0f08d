use Rattle.std.proofs.Common.{◌≡◌, ◌<◌, length, None, ap, ◌∙◌, arith}
use Rattle.std.proofs.lemmas.List.Elements.{All-set}
use Rattle.studio_session.specs.Cursor.{CursorState}
use Rattle.studio_session.specs.Event.{Closing}
use Rattle.studio_engine.proofs.HandLemmas.{come_handed, handed_all, handed_more, handed_none, unhanded}
use Rattle.studio_engine.proofs.dispatch.push_close.Goals as goal

pub loop-number-init : goal.loop-number-init
loop-number-init c = record { handed = handed_none Closing c.args.cursors.now; idle = c.requires.idle }

pub push_close-requires-clause-settled : goal.push_close-requires-clause-settled
push_close-requires-clause-settled c =
    let cursors = c.loop-number.cursors in
    let i = c.loop-number.number in
    let long = c.loop-number.auto.cursors in
    let within : i < length cursors = omega (arith, c.loop-number-test.true, long) in
    let item = c.index-cursors-number.result in
    c.loop-number.invariant.idle i item within

pub push_close-requires-clause-place : goal.push_close-requires-clause-place
push_close-requires-clause-place c =
    let cursors = c.loop-number.cursors in
    let i = c.loop-number.number in
    let long = c.loop-number.auto.cursors in
    let within : i < length cursors = omega (arith, c.loop-number-test.true, long) in
    let item = c.index-cursors-number.result in
    let first : i < length c.args.cursors.now = omega (arith, within, long) in
    let few = c.requires.few in
    let place = ap (λ (s : CursorState). s.place) (unhanded Closing c.args.cursors.now cursors i item c.loop-number.invariant.handed within) ∙ c.requires.come i item first in
    omega (arith, few, place)

pub loop-number-preserved : goal.loop-number-preserved
loop-number-preserved c =
    let cursors = c.loop-number.cursors in
    let i = c.loop-number.number in
    let long = c.loop-number.auto.cursors in
    let within : i < length cursors = omega (arith, c.loop-number-test.true, long) in
    record {
      handed = handed_more Closing c.args.cursors.now cursors i c.index-cursors-number.result c.push_close.new.self c.loop-number.invariant.handed within (c.push_close.ensures.handed i);
      idle = All-set (λ (cursor : CursorState). cursor.reading ≡ None) cursors i c.push_close.new.self c.push_close.ensures.settled c.loop-number.invariant.idle;
    }

pub returns-clause-handed : goal.returns-clause-handed
returns-clause-handed c =
    let end = c.loop-number.auto.number-end in
    let long = c.loop-number.auto.cursors in
    handed_all Closing c.args.cursors.now c.loop-number.cursors c.loop-number.number c.loop-number.invariant.handed (omega (arith, c.loop-number-test.false, long, end)) (omega (arith, long, end))

pub returns-clause-come : goal.returns-clause-come
returns-clause-come c =
    let end = c.loop-number.auto.number-end in
    let long = c.loop-number.auto.cursors in
    come_handed Closing c.args.cursors.now c.loop-number.cursors c.args.count c.requires.come
    (handed_all Closing c.args.cursors.now c.loop-number.cursors c.loop-number.number c.loop-number.invariant.handed (omega (arith, c.loop-number-test.false, long, end)) (omega (arith, long, end)))
