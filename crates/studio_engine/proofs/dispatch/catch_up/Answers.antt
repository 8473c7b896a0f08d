use Rattle.std.proofs.Common.{◌<◌, ◌≤◌, length, subst, sym, arith}
use Rattle.studio_session.specs.Cursor.{CursorState}
use Rattle.studio_engine.proofs.CursorsLemmas.{caught_all, caught_more, caught_none, uncaught}
use Rattle.studio_engine.proofs.dispatch.catch_up.Goals as goal

pub loop-number-init : goal.loop-number-init
loop-number-init c = caught_none c.args.count c.args.cursors.now

pub pass_to-requires : goal.pass_to-requires
pass_to-requires c =
    let cursors = c.loop-number.cursors in
    let i = c.loop-number.number in
    let long = c.loop-number.auto.cursors in
    let within : i < length cursors = omega (arith, c.loop-number-test.true, long) in
    let item = c.index-cursors-number.result in
    let first : i < length c.args.cursors.now = omega (arith, within, long) in
    record { onward = subst (λ (s : CursorState). s.place ≤ c.args.count) (sym (uncaught c.args.count c.args.cursors.now cursors i item c.loop-number.invariant within)) (c.requires.behind i item first) }

pub loop-number-preserved : goal.loop-number-preserved
loop-number-preserved c =
    let cursors = c.loop-number.cursors in
    let i = c.loop-number.number in
    let long = c.loop-number.auto.cursors in
    let within : i < length cursors = omega (arith, c.loop-number-test.true, long) in
    caught_more c.args.count c.args.cursors.now cursors i c.index-cursors-number.result c.pass_to.new.self c.loop-number.invariant within c.pass_to.ensures

pub returns : goal.returns
returns c =
    let end = c.loop-number.auto.number-end in
    let long = c.loop-number.auto.cursors in
    caught_all c.args.count c.args.cursors.now c.loop-number.cursors c.loop-number.number c.loop-number.invariant (omega (arith, c.loop-number-test.false, long, end))
