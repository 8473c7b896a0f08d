use Rattle.std.proofs.Common.{◌≡◌, Some, ap, map, option_map, ◌∙◌, sym}
use Rattle.toml.specs.View.{view, table_view}
use Rattle.studio_config.specs.Values.{value_at, row_in}
use Rattle.studio_config.proofs.ViewLemmas.{map-view}
use Rattle.studio_config.proofs.config.gain_rows.rows_at.Goals as goal

pub returns-in-Some : goal.returns-in-Some
returns-in-Some c =
    let found : value_at (table_view c.args.table.now) c.args.key ≡ Some (view c.in-Some.value.now) = sym c.get.ensures ∙ ap (option_map (λ v. view v.now)) c.in-Some.is in
    rw found (map-view row_in c.items_in.result.now ∙ ap (map row_in) c.items_in.ensures)
