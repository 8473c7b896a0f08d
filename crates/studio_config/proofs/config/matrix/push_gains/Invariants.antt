use Rattle.std.proofs.Common.{◌≡◌, ◌++◌, take, map}
use Rattle.toml.specs.View.{view}
use Rattle.studio_config.specs.Values.{gain_in}
use Rattle.studio_config.proofs.config.matrix.push_gains.Given as goal

-- the gains so far were added
abbrev pub invariant-loop-value : goal.invariant-loop-value
invariant-loop-value l = l.gains.items ≡ l.fn.gains.items ++ map (λ v. gain_in (view v)) (take l.value-index l.more)
