-- The state of a lane, and what holds after it was fed marks and has come to a position.
use Rattle.std.specs.Prelude.{◌≡◌, ℕ, ◌+◌, ◌*◌, ◌^◌, ◌<◌, ◌≤◌, Bool, true, false, not, ◌&&◌, nat_le, ◌-◌, List, ◌++◌, length, drop, slice_index_or, ℤ, pos, negsuc, ◌+ℤ◌, ◌-ℤ◌, ◌≤ℤ◌, ◌<ℤ◌, Option, Some, None, unwrap_or}
use Rattle.rtp_stream.specs.declared.stream_spec.Stream.{Stream}
use Rattle.rtp_stream.specs.StreamSpecFacts.{format_of}
use Rattle.rtp_stream.specs.MarkFacts.{MarkView, IsTime}
use Rattle.rtp_stream.specs.MarkList.{can_follow, is_same_format, is_mark_list, has_end}
use Rattle.rtp_stream.specs.declared.mark.PacketFormat.{PacketFormat}
use Rattle.rtp_stream.specs.declared.mark.Body.{Body}
use Rattle.rtp_stream.specs.declared.mark.Body.TheVariants.{Got, Lost}
use Rattle.rtp_stream.specs.declared.mark.MarkKind.{MarkKind}
use Rattle.rtp_stream.specs.declared.mark.MarkKind.TheVariants.{Slot, Quiet, End}
use Rattle.lane_align.specs.declared.cover.Cover.{Cover}
use Rattle.lane_align.specs.declared.last_slot.LastSlot.{LastSlot}
use Rattle.lane_align.specs.Value.{value_at}
use Rattle.lane_align.specs.Presence.{presence_at, body_presence}
use Rattle.lane_align.specs.Cover.{last_slot, last_quiet, time_reached, cover_to, covers}
use Rattle.lane_align.specs.HeldValues.{Held, silence}
use Rattle.std.specs.List.{All}
use Rattle.rtp_wire.specs.Sample.{Is24Bits, samples_of}

-- a lane as contracts see it: its format and start, its block size and capacity, its last marks, the values and the
-- presence from its position to the end of its last slot, and the presence in the block that was read last
pub record LaneState : Type 0 where
  pub format : PacketFormat
  pub start : ℤ
  pub block : ℕ
  pub position : ℤ
  pub slot : Option LastSlot
  pub quiet : Option ℤ
  pub ended : Bool
  pub capacity : ℕ
  pub values : List ℤ
  pub presence : List ℤ
  pub present : List ℤ

abbrev pub cover_at : LaneState → Cover
cover_at lane = cover_to lane.ended (time_reached lane.format.frames lane.slot lane.quiet)

abbrev pub end_at : LaneState → ℤ
end_at lane = unwrap_or (time_reached lane.format.frames lane.slot lane.quiet) lane.start

-- the time isn't covered yet
abbrev pub is_wanting : LaneState → ℤ → Bool
is_wanting lane t = not (covers (cover_at lane) t)

-- the last mark, but for a slot's body
abbrev pub last_kind : Bool → Option LastSlot → Option ℤ → Option MarkKind
last_kind true slot quiet = Some End
last_kind false (Some slot) quiet = Some (Slot slot.epoch slot.number slot.media Lost)
last_kind false None (Some until) = Some (Quiet until)
last_kind false None None = None

-- the mark has the format of the lane's stream, and may follow the last mark
abbrev pub is_next : LaneState → MarkView → Bool
is_next lane mark = is_same_format mark.format lane.format && can_follow lane.format.frames (last_kind lane.ended lane.slot lane.quiet) mark.kind

-- the size of a distance; 0 if the distance is negative. `frames_between` is how far one time is after another
abbrev pub natural : ℤ → ℕ
natural (pos n) = n
natural (negsuc n) = 0

abbrev pub frames_between : ℤ → ℤ → ℕ
frames_between from to = natural (to -ℤ from)

-- the frames from a time to the end of the last slot
abbrev pub frames_left : ℕ → ℤ → Option LastSlot → ℕ
frames_left frames t None = 0
frames_left frames t (Some slot) = frames_between t (slot.media +ℤ pos frames)

-- the slot that begins at a time comes after this one
abbrev pub IsAfter : ℕ → Option LastSlot → ℤ → Type 0
IsAfter frames None media = Unit {0}
IsAfter frames (Some slot) media = (slot.media +ℤ pos frames) ≤ℤ media

-- the frames from the position to a slot's end
abbrev pub frames_to : LaneState → MarkKind → ℕ
frames_to lane (Slot epoch number media body) = frames_between lane.position (media +ℤ pos lane.format.frames)
frames_to lane (Quiet until) = 0
frames_to lane End = 0

-- there is space for the frames of a mark
abbrev pub has_space_for : LaneState → MarkView → Bool
has_space_for lane mark = nat_le (frames_to lane mark.kind) lane.capacity

-- the samples of a slot, frame by frame
abbrev pub body_samples : PacketFormat → Body → List ℤ
body_samples format (Got payload) = samples_of format.enc payload.items
body_samples format Lost = silence format.channels format.frames

-- the lane after one more slot: silence up to the slot, and those of its frames that are not before the lane's position
abbrev pub with_slot : LaneState → LastSlot → Body → LaneState
with_slot lane slot body = record lane {
  slot = Some slot;
  values = lane.values
      ++ (silence lane.format.channels (frames_between lane.position slot.media - frames_left lane.format.frames lane.position lane.slot)
      ++ drop (frames_between slot.media lane.position * lane.format.channels) (body_samples lane.format body));
  presence = lane.presence
      ++ (silence 1 (frames_between lane.position slot.media - frames_left lane.format.frames lane.position lane.slot)
      ++ drop (frames_between slot.media lane.position * 1) (body_presence lane.format.frames body));
}

-- the lane, of this start and block size, was fed this list and has come to this time
pub record HasFeed (stream : Stream) (from : ℤ) (size : ℕ) (lane : LaneState) (marks : List MarkView) (t : ℤ) : Type 0 where
  pub format : lane.format ≡ format_of stream
  pub start : lane.start ≡ from
  pub block : lane.block ≡ size
  pub position : lane.position ≡ t
  pub mark_list : is_mark_list (format_of stream) marks ≡ true
  pub slot : lane.slot ≡ last_slot marks
  pub quiet : lane.quiet ≡ last_quiet marks
  pub ended : lane.ended ≡ has_end marks
  pub values : (frame channel : ℕ) → channel < stream.channels
      → slice_index_or lane.values (frame * stream.channels + channel) (pos 0) ≡ value_at (format_of stream) marks (t +ℤ pos frame) channel
  pub presence : (frame : ℕ) → slice_index_or lane.presence frame (pos 0) ≡ presence_at (format_of stream) marks (t +ℤ pos frame)

-- the format, the start, the block size and the capacity are unchanged
pub record HasSameFacts (old new : LaneState) : Type 0 where
  pub format : new.format ≡ old.format
  pub start : new.start ≡ old.start
  pub block : new.block ≡ old.block
  pub capacity : new.capacity ≡ old.capacity

abbrev pub IsSlot : Option LastSlot → Type 0
IsSlot None = Unit {0}
IsSlot (Some slot) = (slot.epoch < 2 ^ 62) × (slot.number ≤ 2 ^ 61) × IsTime slot.media

abbrev pub IsQuiet : Option ℤ → Type 0
IsQuiet None = Unit {0}
IsQuiet (Some until) = IsTime until

-- what holds for every lane
pub record IsLane (lane : LaneState) (held came : Held) : Type 0 where
  pub some_channels : 0 < lane.format.channels
  pub few_channels : lane.format.channels ≤ 64
  pub some_frames : 0 < lane.format.frames
  pub few_frames : lane.format.frames ≤ 192
  pub short : lane.format.frames * lane.format.channels ≤ 720
  pub some_block : 0 < lane.block
  pub short_block : lane.block ≤ 192
  pub not_early : pos 0 ≤ℤ lane.position
  pub not_late : lane.position <ℤ pos (2 ^ 62 + 192)
  pub small_start : lane.start ≤ℤ pos (2 ^ 60)
  pub slot : IsSlot lane.slot
  pub quiet : IsQuiet lane.quiet
  pub in_24_bits : All Is24Bits held.values
  pub values : lane.values ≡ held.values
  pub channels : held.channels ≡ lane.format.channels
  pub held_block : held.block ≡ lane.block
  pub capacity : held.capacity ≡ lane.capacity * lane.format.channels
  pub enough_capacity : lane.block + lane.format.frames ≤ lane.capacity
  pub small_capacity : lane.capacity ≤ 2 ^ 24
  pub left : length held.values ≡ frames_left lane.format.frames lane.position lane.slot * lane.format.channels
  pub presence : lane.presence ≡ came.values
  pub one_channel : came.channels ≡ 1
  pub came_block : came.block ≡ lane.block
  pub came_capacity : came.capacity ≡ lane.capacity * 1
  pub came_left : length came.values ≡ frames_left lane.format.frames lane.position lane.slot * 1
