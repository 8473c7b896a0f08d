use Rattle.std.proofs.Common.{◌≡◌, ◌++◌, drop}
use Rattle.live_gains.specs.KeptText.{gains_text}
use Rattle.live_gains.proofs.kept_text.push_gains.Given as goal

abbrev pub invariant-loop-gain : goal.invariant-loop-gain
invariant-loop-gain l = l.text.items ++ gains_text (drop l.gain-index l.gains) ≡ l.initial.text.items ++ gains_text l.gains
