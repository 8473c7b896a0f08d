-- The slots that a merge passes as lost, all at once.
use Rattle.std.specs.Prelude.{◌≡◌, ℕ, zero, suc, ◌+◌, ◌-◌, List, [], ◌∷◌, ◌++◌, ℤ, Option, Some, None, if◌then◌else◌}
use Rattle.std.specs.FinMap.{get}
use Rattle.std.specs.Option.{option_map}
use Rattle.rtp_stream.specs.declared.stream_spec.Stream.{Stream}
use Rattle.rtp_stream.specs.declared.anchor.Anchor.{Anchor}
use Rattle.rtp_stream.specs.declared.event.Event.{Event}
use Rattle.rtp_stream.specs.declared.event.Event.TheVariants.{Tick}
use Rattle.rtp_stream.specs.Anchor.{deadline_of, media_time_of, next_number}
use Rattle.rtp_stream.specs.MarkFacts.{MarkView}
use Rattle.rtp_stream.specs.Marks.{marks_of, slots_from}
use Rattle.path_merge.specs.MergeState.{MergeState, holds_nothing}
use Rattle.path_merge.specs.Merge.{HasHistory}
use Rattle.path_merge.specs.ReadingSteps.{IsOnWay}

-- the number of slots that are due by a clock reading and certainly lost: 0 without an anchor, and while a packet is held
abbrev pub lost_under : MergeState → ℤ → Option Anchor → ℕ
lost_under m now None = 0
lost_under m now (Some anchor) = if holds_nothing m then next_number m.spec anchor now - m.base else 0

abbrev pub lost_due : MergeState → ℤ → ℕ
lost_due m now = lost_under m now m.anchor

-- the media time of the base; none before the first anchor
abbrev pub next_media_of : MergeState → Option ℤ
next_media_of m = option_map (λ anchor. media_time_of m.spec anchor m.base) m.anchor

-- the slots of `count` numbers from the base on, with no copy of any
abbrev pub lost_from : MergeState → Option Anchor → ℕ → List MarkView
lost_from m None count = []
lost_from m (Some anchor) count = slots_from m.spec anchor [] m.base count

abbrev pub lost_marks : MergeState → ℕ → List MarkView
lost_marks m count = lost_from m m.anchor count

-- the deadline of the last of `count` slots from the base on; the merge's time if there are none
abbrev pub last_deadline : MergeState → Option Anchor → ℕ → ℤ
last_deadline m None count = m.time
last_deadline m (Some anchor) zero = m.time
last_deadline m (Some anchor) (suc count) = deadline_of m.spec anchor (m.base + count)

-- this many slots were passed as lost, and the time moved to the deadline of the last; what is held stays the same
pub record PassesLost (old new : MergeState) (count : ℕ) : Type 0 where
  pub held : (n : ℕ) → get new.held n ≡ get old.held n
  pub changed : new ≡ record old { time = last_deadline old old.anchor count; base = old.base + count; held = new.held; counts = record old.counts { lost = old.counts.lost + count } }

-- a clock reading of the merge's new time produces these lost slots and nothing else, and all of them were passed; the
-- merge is still on its way to the reading `now`
pub record LosesSlots (stream : Stream) (open_at : ℤ) (old new : MergeState) (events : List Event) (k : ℕ) (now : ℤ) (count : ℕ) : Type 0 where
  pub stands : HasHistory stream open_at new (events ++ Tick new.time ∷ []) (k + count)
  pub gained : marks_of stream open_at (events ++ Tick new.time ∷ []) ≡ marks_of stream open_at events ++ lost_marks old count
  pub on_way : IsOnWay stream open_at new events now k (lost_marks old count)
