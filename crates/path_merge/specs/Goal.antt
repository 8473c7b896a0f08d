-- The marks of a merge on the way to a goal.
use Rattle.std.specs.Prelude.{◌≡◌, ℕ, ◌<◌, List, length, ℤ, Option, None, IfSome}
use Rattle.rtp_stream.specs.declared.stream_spec.Stream.{Stream}
use Rattle.rtp_stream.specs.declared.event.Event.{Event}
use Rattle.rtp_stream.specs.MarkFacts.{MarkView}
use Rattle.rtp_stream.specs.Marks.{marks_of}
use Rattle.path_merge.specs.declared.goal.Goal.{Goal}
use Rattle.path_merge.specs.declared.goal.Goal.TheVariants.{End, Tick}
use Rattle.path_merge.specs.MergeState.{MergeState}
use Rattle.path_merge.specs.Merge.{HasHistory}
use Rattle.path_merge.specs.Clock.{clock_fault_of}
use Rattle.path_merge.specs.NextMark.{next_left, next_mark}
use Rattle.path_merge.specs.Steps.{Advances, Drains, Moves, marks_left}

-- the goal can be reached: its clock reading is in order; the end always can, but before a close no mark leads to it
abbrev pub CanReach : MergeState → Goal → Type 0
CanReach m (Tick now) = clock_fault_of m.time m.closed now ≡ None
CanReach m End = Unit {0}

-- the next mark on the way to a goal
abbrev pub next_to : MergeState → Goal → Option MarkView
next_to m (Tick now) = next_mark m now
next_to m End = next_left m

-- the mark is the next one on the way to the goal: the next of a clock reading, or of those that are left after a close
abbrev pub Gives : Stream → ℤ → MergeState → MergeState → List Event → ℕ → Goal → Option MarkView → Type 0
Gives stream open_at old new events k (Tick now) mark = Advances stream open_at old new events k now mark
Gives stream open_at old new events k End mark = Drains stream open_at new events k mark

-- a mark leaves fewer marks to drain, and no mark leaves the merge as it was
pub record DrainsOn (old new : MergeState) (mark : Option MarkView) : Type 0 where
  pub none : mark ≡ None → new ≡ old
  pub fewer : IfSome mark (λ given. marks_left new < marks_left old)
  pub time : new.time ≡ old.time

-- the merge gets closer to its goal
abbrev pub MovesTo : MergeState → MergeState → Goal → Option MarkView → Type 0
MovesTo old new (Tick now) mark = Moves old new now mark
MovesTo old new End mark = DrainsOn old new mark

-- the merge has produced all marks of its history
abbrev pub HasGivenAll : MergeState → Type 0
HasGivenAll m = (stream : Stream) (open_at : ℤ) (events : List Event) (k : ℕ) → 0 < stream.frames
    → HasHistory stream open_at m events k → k ≡ length (marks_of stream open_at events)
