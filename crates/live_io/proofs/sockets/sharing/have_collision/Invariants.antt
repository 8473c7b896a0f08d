use Rattle.std.proofs.Common.{◌<◌, ℕ, slice_index_or}
use Rattle.live_io.specs.Sharing.{Collide}
use Rattle.live_io.specs.declared.sockets.sharing.PathPlace.{PathPlace}
use Rattle.live_io.proofs.sockets.sharing.have_collision.Given as goal

-- no two paths before this one collide
abbrev pub invariant-loop-later : goal.invariant-loop-later
invariant-loop-later l = (i j : ℕ) (d : PathPlace) → i < j → j < l.later → Collide (slice_index_or l.places i d) (slice_index_or l.places j d) → ⊥

-- none of the first paths collides with it either
abbrev pub invariant-loop-earlier : goal.invariant-loop-earlier
invariant-loop-earlier l = (i : ℕ) (d : PathPlace) → i < l.earlier → Collide (slice_index_or l.places i d) (slice_index_or l.places l.later d) → ⊥
