use Rattle.std.proofs.Common.{◌≡◌, drop, map}
use Rattle.toml.specs.View.{view}
use Rattle.studio_config.specs.Values.{members_in}
use Rattle.studio_config.specs.OutputTable.{each_fault, change_fault}
use Rattle.studio_config.proofs.config.schedule.check_changes.Given as goal

-- the first fault is that of the tables that are left
abbrev pub invariant-loop-number : goal.invariant-loop-number
invariant-loop-number l = each_fault change_fault 0 (map (λ t. members_in (view t)) l.changes) ≡ each_fault change_fault l.number (map (λ t. members_in (view t)) (drop l.number l.changes))
