-- The lost slots that a cursor passes at once.
use Rattle.std.specs.Prelude.{◌≡◌, ℕ, ◌+◌, nat_eq, List, take, drop, ℤ, Option, Some, None, if◌then◌else◌}
use Rattle.rtp_stream.specs.declared.stream_spec.Stream.{Stream}
use Rattle.rtp_stream.specs.Marks.{marks_of}
use Rattle.path_merge.specs.MergeState.{MergeState}
use Rattle.path_merge.specs.PassLost.{lost_due, lost_marks, next_media_of}
use Rattle.studio_session.specs.Event.{TraceEvent}
use Rattle.studio_session.specs.Session.{stream_history}
use Rattle.studio_session.specs.Cursor.{CursorState, HasPulled}
use Rattle.studio_session.specs.declared.cursor.lost_stretch.LostStretch.{LostStretch}

-- this many slots, of which the first begins at this media time; none if there is no slot
abbrev pub stretch_from : Option ℤ → ℕ → Option LostStretch
stretch_from None count = None
stretch_from (Some media) count = if nat_eq count 0 then None else Some (record { media = media; count = count })

-- the slots of a merge that are due by a clock reading and lost
abbrev pub stretch_by : MergeState → Option ℤ → Option LostStretch
stretch_by merge None = None
stretch_by merge (Some now) = stretch_from (next_media_of merge) (lost_due merge now)

abbrev pub stretch_of : CursorState → Option LostStretch
stretch_of cursor = stretch_by cursor.merge cursor.reading

-- the number of slots
abbrev pub slots_in : Option LostStretch → ℕ
slots_in None = 0
slots_in (Some stretch) = stretch.count

-- the next marks of the events that a cursor took are these lost slots, and it passed them
pub record PassesStretch (stream : Stream) (number : ℕ) (open_at : ℤ) (events : List TraceEvent) (old new : CursorState) (k : ℕ) (stretch : Option LostStretch) : Type 0 where
  pub marks : take (slots_in stretch) (drop k (marks_of stream open_at (stream_history stream number (take old.place events)))) ≡ lost_marks old.merge (slots_in stretch)
  pub stands : HasPulled stream number open_at events new (k + slots_in stretch)
