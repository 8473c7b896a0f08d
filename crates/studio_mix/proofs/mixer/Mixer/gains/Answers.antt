use Rattle.std.proofs.Common.{sym, ap, subst, ◌∙◌, ℤ, w64}
use Rattle.std.proofs.lemmas.Int.{to_z-of_z}
use Rattle.gain_mix.specs.Changes.{matrix_at}
use Rattle.studio_mix.specs.Mixer.{MixerState, HasFeeds}
use Rattle.studio_mix.proofs.ChangedLemmas.{fed_matrix}
use Rattle.studio_mix.proofs.mixer.Mixer.gains.Goals as goal

pub returns-clause-stands : goal.returns-clause-stands
returns-clause-stands c = λ studio feeds number fed late.
    let i = c.self.inside in
    let mixer : MixerState = record { lanes = i.lanes.items; schedule = i.schedule; packer = i.packer; saturated = i.saturated.items; inputs = i.ins.items; missing = i.missing } in
    let fed' : HasFeeds studio mixer feeds number = subst (λ m. HasFeeds studio m feeds number) (sym c.self.view_is) fed in
    c.at.ensures.in_force
    ∙ ap (λ (u : ℤ). matrix_at i.schedule u) (to_z-of_z w64 c.args.at c.ranges.at)
    ∙ fed_matrix studio mixer feeds number c.args.at fed' late
