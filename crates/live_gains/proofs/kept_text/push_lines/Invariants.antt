use Rattle.std.proofs.Common.{◌≡◌, ◌++◌, drop}
use Rattle.live_gains.specs.KeptText.{lines_text}
use Rattle.live_gains.proofs.kept_text.push_lines.Given as goal

abbrev pub invariant-loop-time : goal.invariant-loop-time
invariant-loop-time l = l.text.items ++ lines_text l.schedule (drop l.time-index l.times) ≡ l.initial.text.items ++ lines_text l.schedule l.times
