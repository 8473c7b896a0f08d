use Rattle.std.proofs.Common.{sym, ap, ◌∙◌}
use Rattle.gain_mix.specs.Gain.{ins_of}
use Rattle.gain_mix.specs.Changes.{Changes}
use Rattle.gain_mix.proofs.ChangeLemmas.{ins_of-matrix_at}
use Rattle.gain_mix.proofs.schedule.Schedule.ins.Goals as goal

pub returns-clause-each : goal.returns-clause-each
returns-clause-each c t =
    ins_of-matrix_at c.self.inside.first c.self.inside.later.items c.args.self.now c.self.invariant c.self.view_is t
    ∙ ap (λ (s : Changes). ins_of s.first) (sym c.self.view_is)
    ∙ sym c.ins.ensures.gains
