use Rattle.std.proofs.Common.{◌≡◌, drop, map}
use Rattle.json.specs.Value.{value_view}
use Rattle.status_page.specs.GainBodies.{are_gains}
use Rattle.status_page.proofs.control.body.are_gains.Given as goal

abbrev pub invariant-loop-value : goal.invariant-loop-value
invariant-loop-value l = are_gains (map value_view (drop l.value-index l.values)) ≡ are_gains (map value_view l.values)
