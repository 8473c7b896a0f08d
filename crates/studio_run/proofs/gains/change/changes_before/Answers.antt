use Rattle.std.proofs.Common.{rules, ◌∙◌, ap, to_z, of_z, w64}
use Rattle.std.specs.Int.RustNames.{int_lt}
use Rattle.std.proofs.lemmas.Int.{to_z-of_z}
use Rattle.std.proofs.lemmas.Fn.{filter_same}
use Rattle.gain_mix.specs.Changes.{before}
use Rattle.studio_run.proofs.GainLemmas.{before-filter}
use Rattle.studio_run.proofs.gains.change.changes_before.Goals as goal

pub returns : goal.returns
returns c =
    let at = to_z w64 (of_z w64 c.args.at) in
    filter_same _ (λ change. int_lt change.0 at) _ (λ x b f k. search rules) _ _ c.retain.ensures.filtered
    ∙ before-filter at c.args.changes.items
    ∙ ap (λ t. before t c.args.changes.items) (to_z-of_z w64 c.args.at c.ranges.at)
