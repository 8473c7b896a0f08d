use Rattle.std.proofs.Common.{ap, ◌∙◌, length, take, ℤ, w64}
use Rattle.std.proofs.lemmas.Int.{to_z-of_z}
use Rattle.gain_mix.specs.Gain.{ins_of}
use Rattle.gain_mix.specs.Changes.{Changes, last_change, matrix_at}
use Rattle.gain_mix.proofs.LiveScheduleLemmas.{outs_in_force, ins_in_force}
use Rattle.gain_mix.proofs.live_schedule.LiveSchedule.at.Goals as goal

pub returns-clause-in_force : goal.returns-clause-in_force
returns-clause-in_force c =
    c.last_of.ensures
    ∙ ap (λ (u : ℤ). last_change c.self.inside.first (take c.self.inside.used c.deref.result.now) u) (to_z-of_z w64 c.args.t c.ranges.t)
    ∙ ap (λ later. last_change c.self.inside.first (take c.self.inside.used later) c.args.t) c.deref.ensures.value
    ∙ ap (λ (s : Changes). matrix_at s c.args.t) c.self.view_is

pub returns-clause-outs : goal.returns-clause-outs
returns-clause-outs c =
    ap length (returns-clause-in_force c)
    ∙ outs_in_force c.self.inside.first c.self.inside.slots.items c.self.inside.used c.args.self.now c.self.invariant.0 c.self.view_is c.args.t

pub returns-clause-ins : goal.returns-clause-ins
returns-clause-ins c =
    ap ins_of (returns-clause-in_force c)
    ∙ ins_in_force c.self.inside.first c.self.inside.slots.items c.self.inside.used c.args.self.now c.self.invariant.0 c.self.view_is c.args.t
