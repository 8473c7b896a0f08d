use Rattle.std.proofs.Common.{◌≡◌, ◌++◌}
use Rattle.std.specs.Vec.Iter.{into_iter_items, into_iter_len}
use Rattle.studio_config.specs.Shift.{shifted_changes}
use Rattle.studio_config.proofs.studio.shift.shifted_changes.Given as goal

-- the changes that were moved so far, and those that are left once they are moved, are all moved changes
abbrev pub invariant-loop-at : goal.invariant-loop-at
invariant-loop-at l = shifted_changes l.by l.fn.changes.items ≡ l.later.items ++ shifted_changes l.by (into_iter_items l.rest)

abbrev pub decreases-loop-at : goal.decreases-loop-at
decreases-loop-at l = into_iter_len l.rest
