use Rattle.std.proofs.Common.{◌≡◌, ◌≤◌, ◌+◌, drop}
use Rattle.status_page.specs.PathConditions.{redundancy}
use Rattle.status_page.proofs.path_condition.redundancy.Given as goal

abbrev pub invariant-loop-path : goal.invariant-loop-path
invariant-loop-path l = (l.count ≤ l.path-index) × (l.count + redundancy (drop l.path-index l.paths) ≡ redundancy l.paths)
