use Rattle.std.proofs.Common.{◌≡◌, List, [], ◌∷◌, ◌++◌, ℤ, ◌-ℤ◌, None, unsigned_abs}
use Rattle.rtp_stream.specs.declared.stream_spec.Stream.{Stream}
use Rattle.rtp_stream.specs.declared.event.Event.{Event}
use Rattle.rtp_stream.specs.declared.event.Event.TheVariants.{Tick}
use Rattle.path_merge.specs.Run.{HasGiven}
use Rattle.path_merge.specs.Clock.{clock_fault_of}
use Rattle.path_merge.specs.Steps.{IsAlike}
use Rattle.path_merge.proofs.event_list.advance_to.Given as goal

-- the readings so far lead to the reading
abbrev pub invariant-advances : goal.invariant-advances
invariant-advances g l = record {
  can : clock_fault_of l.merge.time l.merge.closed l.now ≡ None;
  on_way : (stream : Stream) (open_at : ℤ) (events : List Event) → HasGiven stream open_at l.fn.merge events l.fn.marks.items
      → (so_far : List Event) × HasGiven stream open_at l.merge so_far l.marks.items × IsAlike stream open_at (so_far ++ Tick l.now ∷ []) (events ++ Tick l.now ∷ []);
}

abbrev pub decreases-advances : goal.decreases-advances
decreases-advances g l = unsigned_abs (l.now -ℤ l.merge.time)
