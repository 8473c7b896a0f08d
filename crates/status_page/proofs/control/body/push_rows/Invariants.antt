use Rattle.std.proofs.Common.{◌≡◌, ◌++◌, drop, map}
use Rattle.json.specs.Value.{value_view}
use Rattle.status_page.specs.GainBodies.{gains_in_rows}
use Rattle.status_page.proofs.control.body.push_rows.Given as goal

abbrev pub invariant-loop-row : goal.invariant-loop-row
invariant-loop-row l = l.gains.items ++ gains_in_rows (map value_view (drop l.row-index l.rows)) ≡ l.initial.gains.items ++ gains_in_rows (map value_view l.rows)
