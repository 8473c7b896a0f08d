-- A merge that moves to a clock reading, one mark at a time.
use Rattle.std.specs.Prelude.{◌≡◌, ℕ, ◌+◌, List, [], ◌∷◌, ◌++◌, length, take, drop, ℤ, Option, Some, None, if◌then◌else◌}
use Rattle.std.specs.Option.{option_to_list}
use Rattle.rtp_stream.specs.declared.stream_spec.Stream.{Stream}
use Rattle.rtp_stream.specs.MarkFacts.{MarkView}
use Rattle.rtp_stream.specs.declared.event.Event.{Event}
use Rattle.rtp_stream.specs.declared.event.Event.TheVariants.{Tick}
use Rattle.path_merge.specs.MergeState.{MergeState}
use Rattle.path_merge.specs.Merge.{HasHistory}
use Rattle.rtp_stream.specs.Marks.{marks_of, is_slot}
use Rattle.path_merge.specs.Clock.{clock_fault_of}
use Rattle.path_merge.specs.Steps.{IsAlike}

-- the merge has this history, or is still moving to the clock reading at the end of this history
abbrev pub IsOnWay : Stream → ℤ → MergeState → Option ℤ → List Event → ℕ → Type 0
IsOnWay stream open_at merge None events k = HasHistory stream open_at merge events k
IsOnWay stream open_at merge (Some u) events k =
    (so_far : List Event) × HasHistory stream open_at merge so_far k × (clock_fault_of merge.time merge.closed u ≡ None) × IsAlike stream open_at (so_far ++ Tick u ∷ []) events

-- the reading that a merge still has to reach after it returned this mark: none unless the mark is a slot
abbrev pub on_way_after : Option MarkView → ℤ → Option ℤ
on_way_after None u = None
on_way_after (Some mark) u = if is_slot mark.kind then Some u else None

-- the merge returned the next mark on the way to the reading, or reached the reading without a mark
pub record WentOn (stream : Stream) (open_at : ℤ) (merge : MergeState) (u : ℤ) (events : List Event) (k : ℕ) (mark : Option MarkView) : Type 0 where
  pub given : (m : MarkView) → mark ≡ Some m → m ∷ [] ≡ take 1 (drop k (marks_of stream open_at events))
  pub stands : IsOnWay stream open_at merge (on_way_after mark u) events (k + length (option_to_list mark))
