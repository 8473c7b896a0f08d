use Rattle.std.proofs.Common.{sym, ap, ◌∙◌, length}
use Rattle.gain_mix.specs.Changes.{Changes}
use Rattle.gain_mix.proofs.ChangeLemmas.{length-matrix_at}
use Rattle.gain_mix.proofs.schedule.Schedule.outs.Goals as goal

pub returns-clause-each : goal.returns-clause-each
returns-clause-each c t =
    length-matrix_at c.self.inside.first c.self.inside.later.items c.args.self.now c.self.invariant c.self.view_is t
    ∙ ap (λ (s : Changes). length s.first) (sym c.self.view_is)
    ∙ sym c.outs.ensures.rows
