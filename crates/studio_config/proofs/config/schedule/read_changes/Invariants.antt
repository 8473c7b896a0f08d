use Rattle.std.proofs.Common.{◌≡◌, drop, take, map}
use Rattle.toml.specs.View.{view}
use Rattle.studio_config.specs.Values.{members_in}
use Rattle.studio_config.specs.OutputTable.{each_fault, matrix_fault, change_of}
use Rattle.studio_config.specs.declared.config.fault.ConfigTable.TheVariants as at
use Rattle.studio_config.proofs.config.schedule.read_changes.Given as goal

-- the changes so far were read, and the first fault is that of those that are left
abbrev pub invariant-loop-number : goal.invariant-loop-number
invariant-loop-number l = record {
  so_far : l.later.items ≡ map change_of (map (λ t. members_in (view t)) (take l.number l.changes));
  left : each_fault (λ n. matrix_fault l.outs l.ins (at.Change n)) 0 (map (λ t. members_in (view t)) l.changes)
      ≡ each_fault (λ n. matrix_fault l.outs l.ins (at.Change n)) l.number (map (λ t. members_in (view t)) (drop l.number l.changes));
}
