use Rattle.std.proofs.Common.{sym, ap, ◌∙◌, length}
use Rattle.gain_mix.specs.Changes.{Changes}
use Rattle.gain_mix.proofs.LiveScheduleLemmas.{outs_in_force}
use Rattle.gain_mix.proofs.live_schedule.LiveSchedule.outs.Goals as goal

pub returns-clause-each : goal.returns-clause-each
returns-clause-each c t =
    outs_in_force c.self.inside.first c.self.inside.slots.items c.self.inside.used c.args.self.now c.self.invariant.0 c.self.view_is t
    ∙ ap (λ (s : Changes). length s.first) (sym c.self.view_is)
    ∙ sym c.outs.ensures.rows
