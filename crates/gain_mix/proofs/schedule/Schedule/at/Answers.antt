use Rattle.std.proofs.Common.{ap, ◌∙◌, length, ℤ, w64}
use Rattle.std.proofs.lemmas.Int.{to_z-of_z}
use Rattle.gain_mix.specs.Gain.{ins_of}
use Rattle.gain_mix.specs.Changes.{Changes, last_change, matrix_at}
use Rattle.gain_mix.proofs.ChangeLemmas.{length-matrix_at, ins_of-matrix_at}
use Rattle.gain_mix.proofs.schedule.Schedule.at.Goals as goal

pub returns-clause-in_force : goal.returns-clause-in_force
returns-clause-in_force c =
    c.last_of.ensures
    ∙ ap (λ (u : ℤ). last_change c.self.inside.first c.as_slice.result.now u) (to_z-of_z w64 c.args.t c.ranges.t)
    ∙ ap (λ later. last_change c.self.inside.first later c.args.t) c.as_slice.ensures.value
    ∙ ap (λ (s : Changes). matrix_at s c.args.t) c.self.view_is

pub returns-clause-outs : goal.returns-clause-outs
returns-clause-outs c =
    ap length (returns-clause-in_force c)
    ∙ length-matrix_at c.self.inside.first c.self.inside.later.items c.args.self.now c.self.invariant c.self.view_is c.args.t

pub returns-clause-ins : goal.returns-clause-ins
returns-clause-ins c =
    ap ins_of (returns-clause-in_force c)
    ∙ ins_of-matrix_at c.self.inside.first c.self.inside.later.items c.args.self.now c.self.invariant c.self.view_is c.args.t
