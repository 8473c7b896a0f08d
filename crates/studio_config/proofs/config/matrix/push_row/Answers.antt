use Rattle.std.proofs.Common.{◌≡◌, ◌++◌, true, map, ap, sym, ◌∙◌, OnOk, subst}
use Rattle.std.proofs.lemmas.List.Folds.{list_all-map}
use Rattle.std.specs.List.{list_all}
use Rattle.toml.specs.View.{view}
use Rattle.gain_mix.specs.Matrix.{has_range}
use Rattle.studio_config.specs.Values.{gain_in, row_in}
use Rattle.studio_config.specs.OutputTable.{is_gain}
use Rattle.studio_config.proofs.ViewLemmas.{array_found, map-items_in}
use Rattle.studio_config.proofs.config.matrix.push_row.Goals as goal

pub push_gains-requires : goal.push_gains-requires
push_gains-requires c =
    let found = array_found c.as_array.result c.in-Some.more (view c.args.row.now) c.as_array.ensures c.in-Some.is in
    let fine : list_all (λ v. is_gain (gain_in (view v))) c.deref.result.now ≡ true =
    ap (list_all (λ v. is_gain (gain_in (view v)))) c.deref.ensures.value
    ∙ sym (list_all-map is_gain (λ v. gain_in (view v)) c.in-Some.more.now.items)
    ∙ ap has_range (map-items_in gain_in _ _ found)
    ∙ c.requires.in_range in
    record { in_range = fine }

pub returns-in-Some : goal.returns-in-Some
returns-in-Some c =
    let found = array_found c.as_array.result c.in-Some.more (view c.args.row.now) c.as_array.ensures c.in-Some.is in
    let same : map (λ v. gain_in (view v)) c.deref.result.now ≡ row_in (view c.args.row.now) = ap (map (λ v. gain_in (view v))) c.deref.ensures.value ∙ map-items_in gain_in _ _ found in
    subst (λ row. OnOk c.push_gains.result (c.push_gains.new.gains.items ≡ c.args.gains.now.items ++ row)) same c.push_gains.ensures
