use Rattle.std.specs.Prelude.{FitsSigned}
use Rattle.std.proofs.Common.{◌≡◌, ◌≤ℤ◌, ◌+◌, ◌^◌, false, Some, pos, sym, ap, subst, ◌∙◌, rules, to_z, of_z, w64}
use Rattle.std.proofs.lemmas.Int.{to_z-of_z}
use Rattle.path_merge.specs.Clock.{clock_fault_of}
use Rattle.studio_engine.specs.Cursors.{all_at}
use Rattle.studio_engine.specs.Deadline.{IsIdle, IsUnreadyBefore}
use Rattle.studio_engine.proofs.DeadlineLemmas.{too_far, unready_sooner}
use Rattle.studio_engine.proofs.deadline.reading_past.Goals as goal

pub returns-in-Some-clause-never : goal.returns-in-Some-clause-never
returns-in-Some-clause-never c = λ none studio events next count rest.
    let reading = c.latest_reading-reading.result in
    let time = to_z w64 (of_z w64 c.args.time) in
    let fits : FitsSigned w64 reading = search rules in
    let same : to_z w64 (of_z w64 reading) ≡ reading = to_z-of_z w64 reading fits in
    let is : clock_fault_of time false reading ≡ Some c.in-Some.field-0 = ap (clock_fault_of time false) (sym same) ∙ sym c.clock_fault.ensures ∙ c.in-Some.is in
    let far : pos (2 ^ 60 + 1) ≤ℤ reading = too_far time reading c.in-Some.field-0 c.latest_reading-reading.ensures.later is in
    unready_sooner studio events next reading (pos (2 ^ 60 + 1)) far
    (c.latest_reading-reading.ensures.before studio events next count (subst (λ t. IsIdle studio events c.args.mixer.now (all_at count c.args.cursors.now) t next) (sym (to_z-of_z w64 c.args.time c.ranges.time)) rest))

pub returns-in-None-clause-before : goal.returns-in-None-clause-before
returns-in-None-clause-before c = λ studio events next count rest.
    let reading = c.latest_reading-reading.result in
    let fits : FitsSigned w64 reading = search rules in
    subst (IsUnreadyBefore studio events next) (sym (to_z-of_z w64 reading fits))
    (c.latest_reading-reading.ensures.before studio events next count (subst (λ t. IsIdle studio events c.args.mixer.now (all_at count c.args.cursors.now) t next) (sym (to_z-of_z w64 c.args.time c.ranges.time)) rest))
