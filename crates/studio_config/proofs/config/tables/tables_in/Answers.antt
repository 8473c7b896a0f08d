use Rattle.std.proofs.Common.{◌≡◌, true, false, length, ap, ◌∙◌, sym}
use Rattle.std.specs.List.{list_all}
use Rattle.std.proofs.lemmas.List.{length-map}
use Rattle.toml.specs.View.{view}
use Rattle.studio_config.specs.Values.{members_in, is_table, is_array_of}
use Rattle.studio_config.proofs.ViewLemmas.{array_found, is_array_of-array, map-items_in, items_in-array}
use Rattle.studio_config.proofs.config.tables.tables_in.Goals as goal

pub returns-then-all_tables-clause-ok : goal.returns-then-all_tables-clause-ok
returns-then-all_tables-clause-ok c =
    let found = array_found c.as_array.result c.in-Some.items (view c.args.value.now) c.as_array.ensures c.in-Some.is in
    let fits : is_array_of is_table (view c.args.value.now) ≡ true = is_array_of-array is_table _ _ found ∙ ap (list_all (λ v. is_table (view v))) (sym c.deref.ensures.value) ∙ sym c.all_tables.ensures ∙ c.if-all_tables.true in
    rw fits

pub returns-then-all_tables-clause-items : goal.returns-then-all_tables-clause-items
returns-then-all_tables-clause-items c =
    let found = array_found c.as_array.result c.in-Some.items (view c.args.value.now) c.as_array.ensures c.in-Some.is in
    map-items_in members_in _ _ found

pub returns-else-all_tables-clause-fault : goal.returns-else-all_tables-clause-fault
returns-else-all_tables-clause-fault c =
    let found = array_found c.as_array.result c.in-Some.items (view c.args.value.now) c.as_array.ensures c.in-Some.is in
    let fits : is_array_of is_table (view c.args.value.now) ≡ false = is_array_of-array is_table _ _ found ∙ ap (list_all (λ v. is_table (view v))) (sym c.deref.ensures.value) ∙ sym c.all_tables.ensures ∙ c.if-all_tables.false in
    rw fits

pub returns-then-all_tables-clause-count : goal.returns-then-all_tables-clause-count
returns-then-all_tables-clause-count c =
    let found = array_found c.as_array.result c.in-Some.items (view c.args.value.now) c.as_array.ensures c.in-Some.is in
    sym (length-map c.in-Some.items.now.items view) ∙ ap length (sym (items_in-array (view c.args.value.now) c.in-Some.items.now.items found))
