use Rattle.std.proofs.Common.{◌≡◌}
use Rattle.file_commands.specs.ImportedConfig.{unit_gains}
use Rattle.file_commands.proofs.imported_config.unit_gains.Given as goal

-- the rows so far were added
abbrev pub invariant-loop-output : goal.invariant-loop-output
invariant-loop-output l = l.gains.items ≡ unit_gains l.output l.inputs
