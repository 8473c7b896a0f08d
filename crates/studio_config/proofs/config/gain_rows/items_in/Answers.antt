use Rattle.std.proofs.Common.{ap, map, ◌∙◌, sym}
use Rattle.toml.specs.View.{view}
use Rattle.studio_config.proofs.ViewLemmas.{array_found, items_in-array}
use Rattle.studio_config.proofs.config.gain_rows.items_in.Goals as goal

pub returns-in-Some : goal.returns-in-Some
returns-in-Some c =
    let found = array_found c.as_array.result c.in-Some.items (view c.args.value.now) c.as_array.ensures c.in-Some.is in
    ap (map view) c.as_slice.ensures.value ∙ sym (items_in-array (view c.args.value.now) c.in-Some.items.now.items found)
