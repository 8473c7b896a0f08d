use Rattle.std.proofs.Common.{◌≡◌, ◌⊎◌, ℕ, ◌-◌, true, false, List, [], ◌∷◌, ◌++◌, None, take, length}
use Rattle.rtp_stream.specs.declared.event.Event.{Event}
use Rattle.rtp_stream.specs.declared.event.Event.TheVariants.{Tick}
use Rattle.rtp_stream.specs.Marks.{marks_of}
use Rattle.path_merge.specs.Clock.{clock_fault_of}
use Rattle.path_merge.specs.Merge.{HasHistory}
use Rattle.path_merge.specs.Run.{HasGiven}
use Rattle.path_merge.specs.Steps.{IsAlike, marks_left}
use Rattle.example_callers.specs.Receive.{are_on_paths, events_of_all, history_of}
use Rattle.example_callers.proofs.receive.receive_stream.Given as goal

-- the marks so far are those of the datagrams so far
abbrev pub invariant-loop-arrival : goal.invariant-loop-arrival
invariant-loop-arrival l = record {
  paths : are_on_paths l.fn.spec (take l.arrival-index l.arrivals) ≡ true;
  open_yet : l.merge.closed ≡ false;
  given : HasGiven l.fn.spec l.open_at l.merge (events_of_all l.fn.spec (take l.arrival-index l.arrivals)) l.marks.items;
}

-- the merge is on its way to the reading
abbrev pub invariant-loop-marks : goal.invariant-loop-marks
invariant-loop-marks l = record {
  paths : are_on_paths l.fn.spec (take l.arrival-index l.arrivals) ≡ true;
  open_yet : l.merge.closed ≡ false;
  so_far : List Event;
  given : HasGiven l.fn.spec l.open_at l.merge so_far l.marks.items;
  joins : IsAlike l.fn.spec l.open_at (so_far ++ Tick l.arrival.time ∷ []) (events_of_all l.fn.spec (take l.arrival-index l.arrivals) ++ Tick l.arrival.time ∷ []);
  fine : (so_far ≡ events_of_all l.fn.spec (take l.arrival-index l.arrivals)) ⊎ (clock_fault_of l.merge.time l.merge.closed l.arrival.time ≡ None);
}

-- the marks to the reading that are left
abbrev pub decreases-loop-marks : goal.decreases-loop-marks
decreases-loop-marks l = length (marks_of l.fn.spec l.open_at (events_of_all l.fn.spec (take l.arrival-index l.arrivals) ++ Tick l.arrival.time ∷ [])) - length l.marks.items

-- the marks so far are the first of all
abbrev pub invariant-loop-mark : goal.invariant-loop-mark
invariant-loop-mark l = (k : ℕ) × HasHistory l.fn.spec l.open_at l.merge (history_of l.fn.spec l.arrivals) k × (l.marks.items ≡ take k (marks_of l.fn.spec l.open_at (history_of l.fn.spec l.arrivals)))

abbrev pub decreases-loop-mark : goal.decreases-loop-mark
decreases-loop-mark l = marks_left l.merge
