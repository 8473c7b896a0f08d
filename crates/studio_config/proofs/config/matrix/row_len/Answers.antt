use Rattle.std.proofs.Common.{◌≡◌, ap, sym, ◌∙◌, length, rules}
use Rattle.std.proofs.lemmas.List.{length-map}
use Rattle.toml.specs.View.{view}
use Rattle.studio_config.specs.Values.{gain_in}
use Rattle.studio_config.proofs.ViewLemmas.{array_found, map-items_in}
use Rattle.studio_config.proofs.config.matrix.row_len.Goals as goal

pub returns-in-Some : goal.returns-in-Some
returns-in-Some c =
    let found = array_found c.as_array.result c.in-Some.gains (view c.args.row.now) c.as_array.ensures c.in-Some.is in
    let count : c.len.result ≡ length c.in-Some.gains.now.items = search rules in
    count ∙ sym (length-map c.in-Some.gains.now.items (λ v. gain_in (view v))) ∙ ap length (map-items_in gain_in _ _ found)
