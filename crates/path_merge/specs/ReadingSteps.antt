-- A merge on its way from a history to a clock reading.
use Rattle.std.specs.Prelude.{◌≡◌, ℕ, ◌+◌, List, [], ◌∷◌, ◌++◌, length, ℤ, ◌≤ℤ◌}
use Rattle.rtp_stream.specs.declared.stream_spec.Stream.{Stream}
use Rattle.rtp_stream.specs.MarkFacts.{MarkView}
use Rattle.rtp_stream.specs.declared.event.Event.{Event}
use Rattle.rtp_stream.specs.declared.event.Event.TheVariants.{Tick}
use Rattle.rtp_stream.specs.Marks.{marks_of}
use Rattle.path_merge.specs.MergeState.{MergeState}
use Rattle.path_merge.specs.Merge.{HasHistory}
use Rattle.path_merge.specs.Steps.{IsAlike}

-- after these events the merge has gone part of the way to a reading of `now`, and returned `more` marks: its history
-- so far, followed by a reading from its time to `now`, is like the events alone, followed by that reading
pub record IsOnWay (stream : Stream) (open_at : ℤ) (m : MergeState) (events : List Event) (now : ℤ) (k : ℕ) (more : List MarkView) : Type 0 where
  pub so_far : List Event
  pub stands : HasHistory stream open_at m so_far (k + length more)
  pub marks : marks_of stream open_at so_far ≡ marks_of stream open_at events ++ more
  pub joins : (u : ℤ) → m.time ≤ℤ u → u ≤ℤ now → IsAlike stream open_at (so_far ++ Tick u ∷ []) (events ++ Tick u ∷ [])
