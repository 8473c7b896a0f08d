-- The time before which the marks of a stream determine its values.
use Rattle.std.specs.Prelude.{ℕ, ◌+◌, ◌^◌, ◌≤ℤ◌, Bool, true, false, List, [], ◌∷◌, ℤ, pos, ◌+ℤ◌, int_le, Option, Some, None, unwrap_or}
use Rattle.std.specs.Int.{int_max}
use Rattle.std.specs.Option.{option_or, option_map}
use Rattle.rtp_stream.specs.MarkFacts.{MarkView}
use Rattle.rtp_stream.specs.MarkList.{has_end}
use Rattle.rtp_stream.specs.declared.mark.PacketFormat.{PacketFormat}
use Rattle.rtp_stream.specs.declared.mark.MarkKind.{MarkKind}
use Rattle.rtp_stream.specs.declared.mark.MarkKind.TheVariants.{Slot, Quiet, End}
use Rattle.lane_align.specs.declared.cover.Cover.{Cover}
use Rattle.lane_align.specs.declared.cover.Cover.TheVariants.{Nothing, Until, All}
use Rattle.lane_align.specs.declared.last_slot.LastSlot.{LastSlot}

-- the slot of a mark, if the mark is one; `quiet_of` is the time of a Quiet
abbrev pub slot_of : MarkKind → Option LastSlot
slot_of (Slot epoch number media body) = Some (record { epoch = epoch; number = number; media = media })
slot_of (Quiet until) = None
slot_of End = None

abbrev pub quiet_of : MarkKind → Option ℤ
quiet_of (Slot epoch number media body) = None
quiet_of (Quiet until) = Some until
quiet_of End = None

-- the last slot of a list, if there is one; `last_quiet` is the time of its last Quiet
abbrev pub last_slot : List MarkView → Option LastSlot
last_slot [] = None
last_slot (mark ∷ marks) = option_or (last_slot marks) (slot_of mark.kind)

abbrev pub last_quiet : List MarkView → Option ℤ
last_quiet [] = None
last_quiet (mark ∷ marks) = option_or (last_quiet marks) (quiet_of mark.kind)

-- the greater of two times; if there is only one, that one
abbrev pub later_of : Option ℤ → Option ℤ → Option ℤ
later_of None u = u
later_of (Some t) None = Some t
later_of (Some t) (Some u) = Some (int_max t u)

-- the greater of the end of the last slot and the last Quiet's time
abbrev pub time_reached : ℕ → Option LastSlot → Option ℤ → Option ℤ
time_reached frames slot quiet = later_of (option_map (λ s. s.media +ℤ pos frames) slot) quiet

abbrev pub cover_to : Bool → Option ℤ → Cover
cover_to true reached = All
cover_to false (Some t) = Until t
cover_to false None = Nothing

-- the cover of a list: all times once it has ended, else those before the time that it reached
abbrev pub cover_of : PacketFormat → List MarkView → Cover
cover_of format marks = cover_to (has_end marks) (time_reached format.frames (last_slot marks) (last_quiet marks))

-- every time before this one is covered
abbrev pub covers : Cover → ℤ → Bool
covers Nothing t = false
covers (Until u) t = int_le t u
covers All t = true

-- the end of a list: the time that it reached, or the start if it reached none
abbrev pub end_of : PacketFormat → ℤ → List MarkView → ℤ
end_of format start marks = unwrap_or (time_reached format.frames (last_slot marks) (last_quiet marks)) start

-- if the cover has a time, it is so small that sums of a few such times fit 64 bits
abbrev pub IsSmallCover : Cover → Type 0
IsSmallCover Nothing = Unit {0}
IsSmallCover (Until t) = t ≤ℤ pos (2 ^ 61 + 192)
IsSmallCover All = Unit {0}
