use Rattle.std.proofs.Common.{◌≡◌, ◌++◌, drop, map}
use Rattle.json.specs.Value.{value_view}
use Rattle.status_page.specs.GainBodies.{gain_or_zero}
use Rattle.status_page.proofs.control.body.push_gains.Given as goal

abbrev pub invariant-loop-value : goal.invariant-loop-value
invariant-loop-value l = l.gains.items ++ map gain_or_zero (map value_view (drop l.value-index l.values)) ≡ l.initial.gains.items ++ map gain_or_zero (map value_view l.values)
