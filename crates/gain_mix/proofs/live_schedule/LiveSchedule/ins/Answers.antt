use Rattle.std.proofs.Common.{sym, ap, ◌∙◌}
use Rattle.gain_mix.specs.Gain.{ins_of}
use Rattle.gain_mix.specs.Changes.{Changes}
use Rattle.gain_mix.proofs.LiveScheduleLemmas.{ins_in_force}
use Rattle.gain_mix.proofs.live_schedule.LiveSchedule.ins.Goals as goal

pub returns-clause-each : goal.returns-clause-each
returns-clause-each c t =
    ins_in_force c.self.inside.first c.self.inside.slots.items c.self.inside.used c.args.self.now c.self.invariant.0 c.self.view_is t
    ∙ ap (λ (s : Changes). ins_of s.first) (sym c.self.view_is)
    ∙ sym c.ins.ensures.gains
