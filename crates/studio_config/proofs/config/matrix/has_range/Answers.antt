use Rattle.std.proofs.Common.{ap, sym, ◌∙◌}
use Rattle.std.proofs.lemmas.List.Folds.{list_all-map}
use Rattle.std.specs.List.{list_all}
use Rattle.toml.specs.View.{view}
use Rattle.gain_mix.specs.Matrix.{has_range}
use Rattle.studio_config.specs.Values.{gain_in}
use Rattle.studio_config.specs.OutputTable.{is_gain}
use Rattle.studio_config.proofs.ViewLemmas.{array_found, map-items_in}
use Rattle.studio_config.proofs.config.matrix.has_range.Goals as goal

pub returns-in-Some : goal.returns-in-Some
returns-in-Some c =
    let found = array_found c.as_array.result c.in-Some.gains (view c.args.row.now) c.as_array.ensures c.in-Some.is in
    c.are_in_range.ensures
    ∙ ap (list_all (λ v. is_gain (gain_in (view v)))) c.deref.ensures.value
    ∙ sym (list_all-map is_gain (λ v. gain_in (view v)) c.in-Some.gains.now.items)
    ∙ ap has_range (map-items_in gain_in _ _ found)
