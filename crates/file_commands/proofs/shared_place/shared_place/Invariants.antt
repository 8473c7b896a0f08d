use Rattle.std.proofs.Common.{◌<◌, ℕ}
use Rattle.file_commands.specs.SharedPlace.{IsEarlier}
use Rattle.file_commands.proofs.shared_place.shared_place.Given as goal

-- no path of the streams so far comes before the path and collides with its place
abbrev pub invariant-loop-stream : goal.invariant-loop-stream
invariant-loop-stream l = (stream other : ℕ) → stream < l.stream → IsEarlier l.studio l.own l.number l.path stream other → ⊥
