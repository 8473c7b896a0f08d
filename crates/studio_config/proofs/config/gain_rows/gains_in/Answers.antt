use Rattle.std.proofs.Common.{◌≡◌, true, false, ap, ◌∙◌, sym}
use Rattle.std.specs.List.{list_all}
use Rattle.toml.specs.View.{view}
use Rattle.studio_config.specs.Values.{row_in, is_row, is_array_of}
use Rattle.studio_config.proofs.ViewLemmas.{array_found, is_array_of-array, map-items_in}
use Rattle.studio_config.proofs.config.gain_rows.gains_in.Goals as goal

pub returns-then-all_rows-clause-ok : goal.returns-then-all_rows-clause-ok
returns-then-all_rows-clause-ok c =
    let found = array_found c.as_array.result c.in-Some.rows (view c.args.value.now) c.as_array.ensures c.in-Some.is in
    let fits : is_array_of is_row (view c.args.value.now) ≡ true = is_array_of-array is_row _ _ found ∙ ap (list_all (λ v. is_row (view v))) (sym c.deref.ensures.value) ∙ sym c.all_rows.ensures ∙ c.if-all_rows.true in
    rw fits

pub returns-then-all_rows-clause-items : goal.returns-then-all_rows-clause-items
returns-then-all_rows-clause-items c =
    let found = array_found c.as_array.result c.in-Some.rows (view c.args.value.now) c.as_array.ensures c.in-Some.is in
    map-items_in row_in _ _ found

pub returns-else-all_rows-clause-fault : goal.returns-else-all_rows-clause-fault
returns-else-all_rows-clause-fault c =
    let found = array_found c.as_array.result c.in-Some.rows (view c.args.value.now) c.as_array.ensures c.in-Some.is in
    let fits : is_array_of is_row (view c.args.value.now) ≡ false = is_array_of-array is_row _ _ found ∙ ap (list_all (λ v. is_row (view v))) (sym c.deref.ensures.value) ∙ sym c.all_rows.ensures ∙ c.if-all_rows.false in
    rw fits
