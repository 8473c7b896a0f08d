use Rattle.std.proofs.Common.{◌∙◌, ap, map, sym}
use Rattle.json.specs.Value.{value_view}
use Rattle.json.proofs.Trees.{view-Array}
use Rattle.status_page.specs.GainBodies.{items_in}
use Rattle.status_page.proofs.BodyLemmas.{list_of-items}
use Rattle.status_page.proofs.control.body.items.Goals as goal

pub returns-in-Array : goal.returns-in-Array
returns-in-Array c =
    let seen = ap value_view c.in-Array.is ∙ view-Array c.in-Array.items in
    ap (map value_view) c.as_slice.ensures.value ∙ sym (list_of-items c.in-Array.items.items) ∙ ap items_in (sym seen)
