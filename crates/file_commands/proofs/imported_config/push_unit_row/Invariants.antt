use Rattle.std.proofs.Common.{◌≡◌, ◌++◌}
use Rattle.file_commands.specs.ImportedConfig.{unit_row}
use Rattle.file_commands.proofs.imported_config.push_unit_row.Given as goal

-- the gains so far were added
abbrev pub invariant-loop-input : goal.invariant-loop-input
invariant-loop-input l = l.gains.items ≡ l.fn.gains.items ++ unit_row l.output l.input
