use Rattle.std.proofs.Common.{◌≡◌, ℕ, ◌<◌, ◌&&◌, pos, ◌+ℤ◌, int_eq, get_or, false}
use Rattle.gain_mix.specs.Changes.{matrix_at}
use Rattle.gain_mix.specs.Gain.{are_used}
use Rattle.studio_mix.specs.MissingLanes.{agrees}
use Rattle.studio_mix.proofs.missing.is_used_where.Given as goal

-- in no frame so far are the channels used while the stream's presence is the asked one
abbrev pub invariant-loop-frame : goal.invariant-loop-frame
invariant-loop-frame l = (k : ℕ) → k < l.frame
    → (agrees l.came (int_eq (get_or l.present k (pos 0)) (pos 1)) && are_used (matrix_at l.schedule (l.time +ℤ pos k)) l.at l.count) ≡ false
