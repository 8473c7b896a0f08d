use Rattle.std.proofs.lemmas.Grind.{elements}
use Rattle.std.proofs.Common.{ℤ, to_z, of_z, w64, arith, refl, length, sym, ◌∙◌, subst}
use Rattle.std.proofs.lemmas.Int.{to_z-of_z}
use Rattle.std.proofs.lemmas.Option.{slice_get_read}
use Rattle.live_status.specs.Each.{AreEach}
use Rattle.status_page.specs.declared.snapshot.StreamState.{StreamState}
use Rattle.live_status.specs.Conditions.{Updates, UpdatesAt, SetsCondition}
use Rattle.live_status.proofs.Each.{upto-all, upto-set}
use Rattle.live_status.proofs.Conditions.{updates-all, updates-step, sets-before}
use Rattle.live_status.proofs.publisher.set_conditions.Goals as goal

pub loop-number-preserved : goal.loop-number-preserved
loop-number-preserved c =
    let now = to_z w64 (of_z w64 c.args.now) in
    let n = c.loop-number.number in
    let stream = c.index-streams-number.result in
    let statuses = c.loop-number.statuses in
    let streams = c.loop-number.streams in
    let olds = c.args.streams.now in
    let upto = c.loop-number.invariant.0 in
    let within = c.loop-number-test.true in
    let at_now = slice_get_read streams (length streams) n stream refl (omega arith) c.index-streams-number.is in
    let at = sym (upto.left n (omega arith)) ∙ at_now in
    let before = sets-before c.args.statuses.now statuses now c.args.have_ended n stream c.set_condition_at.new.stream (c.loop-number.invariant.1.left n (omega arith))
    (subst (λ (s : StreamState). SetsCondition statuses now c.args.have_ended n s c.set_condition_at.new.stream) (sym c.index-streams-number.is) c.set_condition_at.ensures.stream) in
    let one = subst (λ (s : StreamState). UpdatesAt n s.counts.taken now statuses c.set_condition_at.new.statuses) (sym c.index-streams-number.is) c.set_condition_at.ensures.statuses in (
      upto-set (SetsCondition c.args.statuses.now now c.args.have_ended) n olds streams stream c.set_condition_at.new.stream upto (omega arith) at before,
      updates-step olds now n c.args.statuses.now statuses c.set_condition_at.new.statuses stream at c.loop-number.invariant.1 one,
    )

pub returns-clause-streams : goal.returns-clause-streams
returns-clause-streams c =
    subst (λ (now : ℤ). AreEach (SetsCondition c.args.statuses.now now c.args.have_ended) c.args.streams.now c.loop-number.streams) (to_z-of_z w64 c.args.now c.ranges.now)
    (upto-all (SetsCondition c.args.statuses.now (to_z w64 (of_z w64 c.args.now)) c.args.have_ended) c.loop-number.number c.args.streams.now c.loop-number.streams c.loop-number-test.false c.loop-number.invariant.0)

pub returns-clause-statuses : goal.returns-clause-statuses
returns-clause-statuses c =
    subst (λ (now : ℤ). AreEach (Updates c.args.streams.now now) c.args.statuses.now c.loop-number.statuses) (to_z-of_z w64 c.args.now c.ranges.now)
    (updates-all c.args.streams.now (to_z w64 (of_z w64 c.args.now)) c.loop-number.number c.args.statuses.now c.loop-number.statuses c.loop-number-test.false c.loop-number.invariant.1)

pub loop-number-init : goal.loop-number-init
loop-number-init c = grind (arith, elements)
