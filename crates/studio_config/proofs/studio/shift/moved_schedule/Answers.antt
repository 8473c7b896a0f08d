use Rattle.std.proofs.Common.{◌≡◌, inr, ap, ◌∙◌, w64}
use Rattle.std.proofs.lemmas.Int.{to_z-of_z}
use Rattle.gain_mix.specs.Schedule.{schedule_fault_of}
use Rattle.studio_config.specs.Shift.{shifted_changes}
use Rattle.studio_config.proofs.ShiftLemmas.{has_times-refused}
use Rattle.studio_config.proofs.studio.shift.moved_schedule.Goals as goal

pub returns-in-Err-clause-fault : goal.returns-in-Err-clause-fault
returns-in-Err-clause-fault c =
    let parts = c.into_parts-first.ensures in
    let later : c.in_ok-later.later.items ≡ shifted_changes c.args.by c.args.schedule.later = c.in_ok-later.ensures.ok ∙ ap (λ by. shifted_changes by c.into_parts-first.result.1.items) (to_z-of_z w64 c.args.by c.ranges.by) ∙ ap (shifted_changes c.args.by) parts.later in
    let same : schedule_fault_of c.into_parts-first.result.0 c.in_ok-later.later.items ≡ schedule_fault_of c.args.schedule.first (shifted_changes c.args.by c.args.schedule.later) = rw (parts.first, later) in
    let late = has_times-refused c.args.schedule.first c.args.schedule.later c.args.by parts.no_fault (rw same at c.in-Err.ensures.made) in
    inr (rw (late, c.out_of_range.ensures))
