use Rattle.std.proofs.Common.{◌≡◌, drop, map}
use Rattle.json.specs.Value.{value_view}
use Rattle.status_page.specs.GainBodies.{are_rows}
use Rattle.status_page.proofs.control.body.are_rows.Given as goal

abbrev pub invariant-loop-row : goal.invariant-loop-row
invariant-loop-row l = are_rows l.ins (map value_view (drop l.row-index l.rows)) ≡ are_rows l.ins (map value_view l.rows)
