-- The calls of a lane, and the marks that it was fed.
use Rattle.std.proofs.Common.{◌≡◌, ◌+◌, ◌*◌, ◌-◌, ◌^◌, ℕ, Bool, ◌&&◌, List, [], ◌∷◌, ◌++◌, length, drop, get_or, ℤ, pos, negsuc, ◌+ℤ◌, ◌-ℤ◌, ◌<ℤ◌, Option, Some, None, refl, sym, ap, subst, ◌∙◌, arith, length-drop}
use Rattle.std.proofs.lemmas.Int.{ints}
use Rattle.std.specs.List.{All}
use Rattle.std.proofs.lemmas.List.Elements.{All-drop}
use Rattle.rtp_wire.specs.Sample.{Is24Bits}
use Rattle.std.proofs.Math.Nat.{mul-sub, mul_comm}
use Rattle.std.proofs.lemmas.List.{get_or-drop}
use Rattle.rtp_stream.specs.declared.stream_spec.Stream.{Stream}
use Rattle.rtp_stream.specs.StreamSpecFacts.{format_of}
use Rattle.rtp_stream.specs.MarkFacts.{MarkView}
use Rattle.rtp_stream.specs.MarkList.{can_follow, is_same_format, is_mark_list, has_end}
use Rattle.rtp_stream.specs.declared.mark.PacketFormat.{PacketFormat}
use Rattle.lane_align.specs.declared.last_slot.LastSlot.{LastSlot}
use Rattle.lane_align.specs.Cover.{last_slot}
use Rattle.lane_align.specs.HeldValues.{Held, first_values}
use Rattle.lane_align.specs.Value.{value_at, frames_from}
use Rattle.lane_align.specs.Presence.{presence_at, presence_from}
use Rattle.lane_align.specs.Lane.{LaneState, HasFeed, IsLane, is_next, last_kind, natural, frames_left}
use Rattle.lane_align.proofs.MarkListLemmas.{next_is}
use Rattle.lane_align.proofs.ValueLemmas.{frames_by_place, presence_by_place}

-- a mark may follow a lane's marks exactly if they stay a mark list with it
pub fed_next : (stream : Stream) (from : ℤ) (size : ℕ) (lane : LaneState) (marks : List MarkView) (t : ℤ) (mark : MarkView)
    → HasFeed stream from size lane marks t → is_next lane mark ≡ is_mark_list (format_of stream) (marks ++ mark ∷ [])
fed_next stream from size lane marks t mark fed =
    ap (λ (f : PacketFormat). is_same_format mark.format f && can_follow f.frames (last_kind lane.ended lane.slot lane.quiet) mark.kind) fed.format
    ∙ ap (λ e. is_same_format mark.format (format_of stream) && can_follow stream.frames (last_kind e lane.slot lane.quiet) mark.kind) fed.ended
    ∙ ap (λ s. is_same_format mark.format (format_of stream) && can_follow stream.frames (last_kind (has_end marks) s lane.quiet) mark.kind) fed.slot
    ∙ ap (λ q. is_same_format mark.format (format_of stream) && can_follow stream.frames (last_kind (has_end marks) (last_slot marks) q) mark.kind) fed.quiet
    ∙ sym (next_is (format_of stream) marks mark fed.mark_list)

abbrev pub lane_of : PacketFormat → ℤ → ℕ → ℤ → Option LastSlot → Option ℤ → Bool → ℕ → List ℤ → List ℤ → List ℤ → LaneState
lane_of format start block position slot quiet ended capacity values presence present = record { format = format; start = start; block = block; position = position; slot = slot; quiet = quiet; ended = ended; capacity = capacity; values = values; presence = presence; present = present }

-- a lane after a block was read
abbrev pub after_block : LaneState → List ℤ → List ℤ → List ℤ → LaneState
after_block lane values presence present = record { format = lane.format; start = lane.start; block = lane.block; position = lane.position +ℤ pos lane.block; slot = lane.slot; quiet = lane.quiet; ended = lane.ended; capacity = lane.capacity; values = values; presence = presence; present = present }

-- the distance to a later time is its difference, and the distance to an earlier time is 0
pub data Distance (z : ℤ) : Type 0 where
  past : pos (natural z) ≡ z → Distance z
  none : z <ℤ pos 0 → natural z ≡ 0 → Distance z

pub distance : (z : ℤ) → Distance z
distance (pos n) = past refl
distance (negsuc n) = none (omega (arith, ints)) refl

natural_less : (x : ℤ) (n : ℕ) → natural (x -ℤ pos n) ≡ natural x - n
natural_less x n = elim (distance x) [
  | past a ↦ elim (distance (x -ℤ pos n)) [ past b ↦ omega (arith, ints) | none b z ↦ omega (arith, ints) ]
  | none a y ↦ elim (distance (x -ℤ pos n)) [ past b ↦ absurd (omega (arith, ints)) | none b z ↦ omega (arith, ints) ]
]

pub times_less : (a b c : ℕ) → a * c - b * c ≡ (a - b) * c
times_less a b c = ap (λ k. k - b * c) (mul_comm a c) ∙ ap (λ k. c * a - k) (mul_comm b c) ∙ sym (mul-sub c a b) ∙ mul_comm c (a - b)

frames_left_less : (frames : ℕ) (t : ℤ) (n : ℕ) (slot : Option LastSlot) → frames_left frames (t +ℤ pos n) slot ≡ frames_left frames t slot - n
frames_left_less frames t n None = omega arith
frames_left_less frames t n (Some slot) =
    ap natural (let e : (slot.media +ℤ pos frames) -ℤ (t +ℤ pos n) ≡ ((slot.media +ℤ pos frames) -ℤ t) -ℤ pos n = omega (arith, ints) in e)
    ∙ natural_less ((slot.media +ℤ pos frames) -ℤ t) n

pub block_values : (stream : Stream) (from : ℤ) (size : ℕ) (lane : LaneState) (marks : List MarkView) (t : ℤ) → HasFeed stream from size lane marks t
    → first_values (lane.block * lane.format.channels) lane.values ≡ frames_from (format_of stream) marks t size
block_values stream from size lane marks t fed =
    ap (λ (f : PacketFormat). first_values (lane.block * f.channels) lane.values) fed.format
    ∙ ap (λ b. first_values (b * stream.channels) lane.values) fed.block
    ∙ frames_by_place (format_of stream) marks t size lane.values fed.values

pub block_presence : (stream : Stream) (from : ℤ) (size : ℕ) (lane : LaneState) (marks : List MarkView) (t : ℤ) → HasFeed stream from size lane marks t
    → first_values (lane.block * 1) lane.presence ≡ presence_from (format_of stream) marks t size
block_presence stream from size lane marks t fed =
    ap (λ b. first_values (b * 1) lane.presence) fed.block
    ∙ ap (λ n. first_values n lane.presence) (let one : size * 1 ≡ size = omega arith in one)
    ∙ presence_by_place (format_of stream) marks t size lane.presence fed.presence

pub block_read : (stream : Stream) (from : ℤ) (size : ℕ) (lane : LaneState) (marks : List MarkView) (t : ℤ) (values presence present : List ℤ) → HasFeed stream from size lane marks t
    → values ≡ drop (lane.block * lane.format.channels) lane.values → presence ≡ drop (lane.block * 1) lane.presence
    → HasFeed stream from size (after_block lane values presence present) marks (t +ℤ pos size)
block_read stream from size lane marks t values presence present fed e e_came = record {
  format = fed.format;
  start = fed.start;
  block = fed.block;
  position = ap (λ p. p +ℤ pos lane.block) fed.position ∙ ap (λ b. t +ℤ pos b) fed.block;
  mark_list = fed.mark_list;
  slot = fed.slot;
  quiet = fed.quiet;
  ended = fed.ended;
  values = λ f k lt.
      let n = size * stream.channels in
      let e' : values ≡ drop n lane.values = e ∙ ap (λ (g : PacketFormat). drop (lane.block * g.channels) lane.values) fed.format ∙ ap (λ b. drop (b * stream.channels) lane.values) fed.block in
      ap (λ vs. get_or vs (f * stream.channels + k) (pos 0)) e'
      ∙ get_or-drop n lane.values (f * stream.channels + k) (pos 0)
      ∙ ap (λ i. get_or lane.values i (pos 0)) (let m : size * stream.channels + (f * stream.channels + k) ≡ (size + f) * stream.channels + k = omega arith in m)
      ∙ fed.values (size + f) k lt
      ∙ ap (λ u. value_at (format_of stream) marks u k) (let m : t +ℤ pos (size + f) ≡ (t +ℤ pos size) +ℤ pos f = omega (arith, ints) in m);
  presence = λ f.
      ap (λ vs. get_or vs f (pos 0)) (e_came ∙ ap (λ b. drop (b * 1) lane.presence) fed.block)
      ∙ get_or-drop (size * 1) lane.presence f (pos 0)
      ∙ ap (λ i. get_or lane.presence i (pos 0)) (let m : size * 1 + f ≡ size + f = omega arith in m)
      ∙ fed.presence (size + f)
      ∙ ap (presence_at (format_of stream) marks) (let m : t +ℤ pos (size + f) ≡ (t +ℤ pos size) +ℤ pos f = omega (arith, ints) in m);
}

pub block_sound : (lane : LaneState) (held came next arrived : Held) (present : List ℤ) → IsLane lane held came → lane.position <ℤ pos (2 ^ 62)
    → next ≡ record held { values = drop (lane.block * lane.format.channels) held.values }
    → arrived ≡ record came { values = drop (lane.block * 1) came.values }
    → IsLane (after_block lane next.values arrived.values present) next arrived
block_sound lane held came next arrived present sound early e e_came = record {
  some_channels = sound.some_channels;
  few_channels = sound.few_channels;
  some_frames = sound.some_frames;
  few_frames = sound.few_frames;
  short = sound.short;
  some_block = sound.some_block;
  short_block = sound.short_block;
  not_early = let p = sound.not_early in omega (arith, ints);
  not_late = let b = sound.short_block in omega (arith, ints);
  small_start = sound.small_start;
  slot = sound.slot;
  quiet = sound.quiet;
  in_24_bits = subst (λ (h : Held). All Is24Bits h.values) (sym e) (All-drop Is24Bits (lane.block * lane.format.channels) held.values sound.in_24_bits);
  values = refl;
  channels = ap (λ (h : Held). h.channels) e ∙ sound.channels;
  held_block = ap (λ (h : Held). h.block) e ∙ sound.held_block;
  capacity = ap (λ (h : Held). h.capacity) e ∙ sound.capacity;
  enough_capacity = sound.enough_capacity;
  small_capacity = sound.small_capacity;
  left =
      let n = lane.block * lane.format.channels in
      let before = frames_left lane.format.frames lane.position lane.slot in
      ap (λ (h : Held). length h.values) e
      ∙ length-drop n held.values
      ∙ ap (λ k. k - n) sound.left
      ∙ (let m : before * lane.format.channels - lane.block * lane.format.channels ≡ (before - lane.block) * lane.format.channels = times_less before lane.block lane.format.channels in m)
      ∙ ap (λ k. k * lane.format.channels) (sym (frames_left_less lane.format.frames lane.position lane.block lane.slot));
  presence = refl;
  one_channel = ap (λ (h : Held). h.channels) e_came ∙ sound.one_channel;
  came_block = ap (λ (h : Held). h.block) e_came ∙ sound.came_block;
  came_capacity = ap (λ (h : Held). h.capacity) e_came ∙ sound.came_capacity;
  came_left =
      let before = frames_left lane.format.frames lane.position lane.slot in
      ap (λ (h : Held). length h.values) e_came
      ∙ length-drop (lane.block * 1) came.values
      ∙ ap (λ k. k - lane.block * 1) sound.came_left
      ∙ times_less before lane.block 1
      ∙ ap (λ k. k * 1) (sym (frames_left_less lane.format.frames lane.position lane.block lane.slot));
}
