use Rattle.std.proofs.Common.{◌<◌, ℕ}
use Rattle.file_commands.specs.SharedPlace.{CollidesAt, place_of}
use Rattle.file_commands.proofs.shared_place.first_at.Given as goal

-- none of the paths so far collides
abbrev pub invariant-loop-place : goal.invariant-loop-place
invariant-loop-place l = (other : ℕ) → other < l.place → CollidesAt l.own (place_of l.studio l.stream other) → ⊥
