use Rattle.std.proofs.Common.{ap, ◌∙◌, sym}
use Rattle.std.specs.List.{list_all}
use Rattle.toml.specs.View.{view}
use Rattle.studio_config.specs.Values.{is_integer}
use Rattle.studio_config.proofs.ViewLemmas.{array_found, is_array_of-array}
use Rattle.studio_config.proofs.config.gain_rows.is_row.Goals as goal

pub returns : goal.returns
returns c =
    let found = array_found c.as_array.result c.in-Some.items (view c.args.value.now) c.as_array.ensures c.in-Some.is in
    c.all_integers.ensures ∙ ap (list_all (λ v. is_integer (view v))) c.deref.ensures.value ∙ sym (is_array_of-array is_integer _ _ found)
