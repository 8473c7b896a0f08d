use Rattle.std.proofs.Common.{◌≡◌, take}
use Rattle.std.specs.List.{flat_map}
use Rattle.toml.specs.View.{view}
use Rattle.studio_config.specs.Values.{row_in}
use Rattle.studio_config.proofs.config.matrix.flat_gains.Given as goal

-- the rows so far were added
abbrev pub invariant-loop-row : goal.invariant-loop-row
invariant-loop-row l = l.gains.items ≡ flat_map (λ v. row_in (view v)) (take l.row-index l.rows)
