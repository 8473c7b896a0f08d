use Rattle.std.proofs.Common.{◌≡◌, ℕ, List, ℤ, take}
use Rattle.rtp_stream.specs.declared.stream_spec.Stream.{Stream}
use Rattle.rtp_stream.specs.declared.event.Event.{Event}
use Rattle.rtp_stream.specs.Marks.{marks_of}
use Rattle.path_merge.specs.Merge.{HasHistory}
use Rattle.path_merge.specs.Steps.{marks_left}
use Rattle.path_merge.proofs.event_list.drain_to.Given as goal

-- the marks that were appended are those that the drain returned
abbrev pub invariant-drains : goal.invariant-drains
invariant-drains g l = (stream : Stream) (open_at : ℤ) (events : List Event) (k : ℕ) → HasHistory stream open_at l.fn.merge events k → l.fn.marks.items ≡ take k (marks_of stream open_at events)
    → (j : ℕ) × HasHistory stream open_at l.merge events j × (l.marks.items ≡ take j (marks_of stream open_at events))

abbrev pub decreases-drains : goal.decreases-drains
decreases-drains g l = marks_left l.merge
