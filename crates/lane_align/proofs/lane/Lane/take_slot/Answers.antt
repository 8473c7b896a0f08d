use Rattle.std.proofs.lemmas.Grind.{common_steps, elements}
use Rattle.std.specs.Prelude.{option_copied}
use Rattle.std.proofs.Common.{◌≡◌, ◌≤◌, ◌<◌, ◌+◌, ◌-◌, ◌*◌, ◌^◌, min, pos, ◌+ℤ◌, Some, true, length, take, ap, sym, subst, ◌∙◌, refl, arith, to_z, of_z, w64}
use Rattle.std.proofs.lemmas.Int.{ints}
use Rattle.rtp_stream.specs.MarkFacts.{HasLength, payload_length}
use Rattle.rtp_stream.specs.MarkRef.{body_from}
use Rattle.lane_align.specs.HeldValues.{Held}
use Rattle.lane_align.specs.Lane.{LaneState, IsAfter, is_wanting, frames_between, frames_left, with_slot}
use Rattle.lane_align.proofs.LaneLemmas.{lane_of}
use Rattle.lane_align.proofs.SlotLemmas.{slot_added, presence_added, slot_sound, block_space, block_full, short_gap, wanted_left, slot_space}
use Rattle.lane_align.proofs.lane.Lane.take_slot.Goals.{After-add_slot, After-add_presence, After-frames_between}
use Rattle.lane_align.proofs.lane.Lane.take_slot.Goals as goal

-- the frames that the lane holds, and those between the position of the lane and the slot
left_is : (c : After-frames_between) → c.frames_left-held.result ≡ frames_left c.self.inside.format.frames c.self.inside.position c.self.inside.slot
left_is c =
    let early = c.self.invariant.not_early in
    let late = c.self.invariant.not_late in
    let same : to_z w64 (of_z w64 c.self.inside.position) ≡ c.self.inside.position = omega (arith, ints) in
    c.frames_left-held.ensures ∙ ap (λ t. frames_left c.self.inside.format.frames t c.self.inside.slot) same

before_is : (c : After-frames_between) → c.frames_between.result ≡ frames_between c.self.inside.position c.args.slot.media
before_is c =
    let early = c.self.invariant.not_early in
    let late = c.self.invariant.not_late in
    let low = c.requires.small.2.0 in
    let high = c.requires.small.2.1 in
    let same : to_z w64 (of_z w64 c.self.inside.position) ≡ c.self.inside.position = omega (arith, ints) in
    let same_media : to_z w64 (of_z w64 c.args.slot.media) ≡ c.args.slot.media = omega (arith, ints) in
    c.frames_between.ensures ∙ ap (λ t. frames_between t (to_z w64 (of_z w64 c.args.slot.media))) same ∙ ap (frames_between c.self.inside.position) same_media

pub add_slot-requires-clause-within : goal.add_slot-requires-clause-within
add_slot-requires-clause-within c =
    let i = c.self.inside in
    let s = c.self.invariant in
    let left = left_is (goal.at.add_slot-requires-clause-within c).After-frames_between in
    let before = before_is (goal.at.add_slot-requires-clause-within c).After-frames_between in
    let wanted : frames_left i.format.frames i.position i.slot < i.block = wanted_left (lane_of i.format i.start i.block i.position i.slot i.quiet i.ended i.capacity i.values.values i.presence.values (take i.block i.present)) s.some_block (subst (λ (l : LaneState). is_wanting l (l.position +ℤ pos l.block) ≡ true) (sym c.self.view_is) c.requires.wanted) in
    let sum : frames_left i.format.frames i.position i.slot + c.min-stored.result ≤ i.block = omega (arith, c.min-stored.ensures, c.from.ensures) in
    block_space (length i.values.values) (frames_left i.format.frames i.position i.slot) c.min-stored.result i.block i.format.channels i.values.channels i.values.block s.left s.channels s.held_block sum

pub add_slot-requires-clause-block_end : goal.add_slot-requires-clause-block_end
add_slot-requires-clause-block_end c = λ some.
    let i = c.self.inside in
    let s = c.self.invariant in
    let left = left_is (goal.at.add_slot-requires-clause-block_end c).After-frames_between in
    let before = before_is (goal.at.add_slot-requires-clause-block_end c).After-frames_between in
    let wanted : frames_left i.format.frames i.position i.slot < i.block = wanted_left (lane_of i.format i.start i.block i.position i.slot i.quiet i.ended i.capacity i.values.values i.presence.values (take i.block i.present)) s.some_block (subst (λ (l : LaneState). is_wanting l (l.position +ℤ pos l.block) ≡ true) (sym c.self.view_is) c.requires.wanted) in
    let sum : frames_left i.format.frames i.position i.slot + c.min-stored.result ≡ i.block = omega (arith, c.min-stored.ensures, c.from.ensures) in
    block_full (length i.values.values) (frames_left i.format.frames i.position i.slot) c.min-stored.result i.block i.format.channels i.values.channels i.values.block s.left s.channels s.held_block sum

pub add_slot-requires-clause-small : goal.add_slot-requires-clause-small
add_slot-requires-clause-small c =
    let i = c.self.inside in
    let s = c.self.invariant in
    let left = left_is (goal.at.add_slot-requires-clause-small c).After-frames_between in
    let before = before_is (goal.at.add_slot-requires-clause-small c).After-frames_between in
    let short : frames_between i.position c.args.slot.media ≤ 2 ^ 61 = short_gap i.position c.args.slot.media s.not_early c.requires.small.2.1 in
    omega arith

-- the payload has the length of the lane's format
fits_is : (c : After-add_slot) → HasLength (payload_length c.self.inside.format) (body_from (option_copied c.args.payload))
fits_is c = subst (λ (l : LaneState). HasLength (payload_length l.format) (body_from (option_copied c.args.payload))) (sym c.self.view_is) c.requires.len

-- the values that the lane holds after the slot
added_is : (c : After-add_slot) → c.frames_left-held.result ≡ frames_left c.self.inside.format.frames c.self.inside.position c.self.inside.slot → c.frames_between.result ≡ frames_between c.self.inside.position c.args.slot.media
    → c.add_slot.new.values ≡ record c.self.inside.values { values = (with_slot (lane_of c.self.inside.format c.self.inside.start c.self.inside.block c.self.inside.position c.self.inside.slot c.self.inside.quiet c.self.inside.ended c.self.inside.capacity c.self.inside.values.values c.self.inside.presence.values (take c.self.inside.block c.self.inside.present)) c.args.slot (body_from (option_copied c.args.payload))).values }
added_is c left before =
    let i = c.self.inside in
    let early = c.self.invariant.not_early in
    let late = c.self.invariant.not_late in
    let low = c.requires.small.2.0 in
    let high = c.requires.small.2.1 in
    let same : to_z w64 (of_z w64 i.position) ≡ i.position = omega (arith, ints) in
    let same_media : to_z w64 (of_z w64 c.args.slot.media) ≡ c.args.slot.media = omega (arith, ints) in
    let skipped = c.frames_before-skipped.ensures ∙ ap (λ t. min (frames_between t (to_z w64 (of_z w64 i.position))) i.format.frames) same_media ∙ ap (λ t. min (frames_between c.args.slot.media t) i.format.frames) same in
    slot_added (lane_of i.format i.start i.block i.position i.slot i.quiet i.ended i.capacity i.values.values i.presence.values (take i.block i.present)) i.values i.presence c.add_slot.new.values c.args.slot (body_from (option_copied c.args.payload)) c.frames_left-held.result c.frames_between.result c.min-stored.result (c.frames_between.result - c.frames_left-held.result - c.min-stored.result) c.from.result (frames_between c.args.slot.media i.position) c.frames_before-skipped.result
    c.self.invariant (fits_is c) left before refl c.min-stored.ensures refl skipped c.add_slot.ensures.added

-- the presence that the lane holds after the slot
arrived_is : (c : After-add_presence) → c.frames_left-held.result ≡ frames_left c.self.inside.format.frames c.self.inside.position c.self.inside.slot → c.frames_between.result ≡ frames_between c.self.inside.position c.args.slot.media
    → c.add_presence.new.presence ≡ record c.self.inside.presence { values = (with_slot (lane_of c.self.inside.format c.self.inside.start c.self.inside.block c.self.inside.position c.self.inside.slot c.self.inside.quiet c.self.inside.ended c.self.inside.capacity c.self.inside.values.values c.self.inside.presence.values (take c.self.inside.block c.self.inside.present)) c.args.slot (body_from (option_copied c.args.payload))).presence }
arrived_is c left before =
    let i = c.self.inside in
    let early = c.self.invariant.not_early in
    let late = c.self.invariant.not_late in
    let low = c.requires.small.2.0 in
    let high = c.requires.small.2.1 in
    let same : to_z w64 (of_z w64 i.position) ≡ i.position = omega (arith, ints) in
    let same_media : to_z w64 (of_z w64 c.args.slot.media) ≡ c.args.slot.media = omega (arith, ints) in
    let skipped = c.frames_before-skipped.ensures ∙ ap (λ t. min (frames_between t (to_z w64 (of_z w64 i.position))) i.format.frames) same_media ∙ ap (λ t. min (frames_between c.args.slot.media t) i.format.frames) same in
    presence_added (lane_of i.format i.start i.block i.position i.slot i.quiet i.ended i.capacity i.values.values i.presence.values (take i.block i.present)) i.values i.presence c.add_presence.new.presence c.args.slot (body_from (option_copied c.args.payload)) c.frames_left-held.result c.frames_between.result c.min-stored.result (c.frames_between.result - c.frames_left-held.result - c.min-stored.result) c.from.result (frames_between c.args.slot.media i.position) c.frames_before-skipped.result
    c.self.invariant left before refl c.min-stored.ensures refl skipped c.add_presence.ensures

pub invariant_of-self : goal.invariant_of-self
invariant_of-self c =
    let i = c.self.inside in
    let at = goal.at.invariant_of-self c in
    let left = left_is at.After-frames_between in
    let before = before_is at.After-frames_between in
    let after : IsAfter i.format.frames i.slot c.args.slot.media = subst (λ (l : LaneState). IsAfter l.format.frames l.slot c.args.slot.media) (sym c.self.view_is) c.requires.after in
    slot_sound (lane_of i.format i.start i.block i.position i.slot i.quiet i.ended i.capacity i.values.values i.presence.values (take i.block i.present)) i.values i.presence c.add_slot.new.values c.add_presence.new.presence c.args.slot (body_from (option_copied c.args.payload)) (take i.block i.present) c.self.invariant c.requires.small (fits_is at.After-add_slot) after (added_is at.After-add_slot left before) (arrived_is at.After-add_presence left before) c.add_slot.ensures.in_24_bits

pub returns-clause-taken : goal.returns-clause-taken
returns-clause-taken c =
    let i = c.self.inside in
    let at = goal.at.returns-clause-taken c in
    let left = left_is at.After-frames_between in
    let before = before_is at.After-frames_between in
    ap (λ (h : Held). lane_of i.format i.start i.block i.position (Some c.args.slot) i.quiet i.ended i.capacity h.values c.add_presence.new.presence.values (take i.block i.present)) (added_is at.After-add_slot left before)
    ∙ ap (λ (h : Held). lane_of i.format i.start i.block i.position (Some c.args.slot) i.quiet i.ended i.capacity (with_slot (lane_of i.format i.start i.block i.position i.slot i.quiet i.ended i.capacity i.values.values i.presence.values (take i.block i.present)) c.args.slot (body_from (option_copied c.args.payload))).values h.values (take i.block i.present)) (arrived_is at.After-add_presence left before)
    ∙ ap (λ (l : LaneState). with_slot l c.args.slot (body_from (option_copied c.args.payload))) c.self.view_is

pub add_presence-requires-clause-within : goal.add_presence-requires-clause-within
add_presence-requires-clause-within c =
    let i = c.self.inside in
    let s = c.self.invariant in
    let left = left_is (goal.at.add_presence-requires-clause-within c).After-frames_between in
    let wanted : frames_left i.format.frames i.position i.slot < i.block = wanted_left (lane_of i.format i.start i.block i.position i.slot i.quiet i.ended i.capacity i.values.values i.presence.values (take i.block i.present)) s.some_block (subst (λ (l : LaneState). is_wanting l (l.position +ℤ pos l.block) ≡ true) (sym c.self.view_is) c.requires.wanted) in
    let sum : frames_left i.format.frames i.position i.slot + c.min-stored.result ≤ i.block = omega (arith, c.min-stored.ensures, c.from.ensures) in
    block_space (length i.presence.values) (frames_left i.format.frames i.position i.slot) c.min-stored.result i.block 1 i.presence.channels i.presence.block s.came_left s.one_channel s.came_block sum

pub add_presence-requires-clause-block_end : goal.add_presence-requires-clause-block_end
add_presence-requires-clause-block_end c = λ some.
    let i = c.self.inside in
    let s = c.self.invariant in
    let left = left_is (goal.at.add_presence-requires-clause-block_end c).After-frames_between in
    let before = before_is (goal.at.add_presence-requires-clause-block_end c).After-frames_between in
    let wanted : frames_left i.format.frames i.position i.slot < i.block = wanted_left (lane_of i.format i.start i.block i.position i.slot i.quiet i.ended i.capacity i.values.values i.presence.values (take i.block i.present)) s.some_block (subst (λ (l : LaneState). is_wanting l (l.position +ℤ pos l.block) ≡ true) (sym c.self.view_is) c.requires.wanted) in
    let sum : frames_left i.format.frames i.position i.slot + c.min-stored.result ≡ i.block = omega (arith, c.min-stored.ensures, c.from.ensures) in
    block_full (length i.presence.values) (frames_left i.format.frames i.position i.slot) c.min-stored.result i.block 1 i.presence.channels i.presence.block s.came_left s.one_channel s.came_block sum

pub add_presence-requires-clause-small : goal.add_presence-requires-clause-small
add_presence-requires-clause-small c =
    let i = c.self.inside in
    let s = c.self.invariant in
    let left = left_is (goal.at.add_presence-requires-clause-small c).After-frames_between in
    let before = before_is (goal.at.add_presence-requires-clause-small c).After-frames_between in
    let short : frames_between i.position c.args.slot.media ≤ 2 ^ 61 = short_gap i.position c.args.slot.media s.not_early c.requires.small.2.1 in
    omega arith

pub add_presence-requires-clause-space : goal.add_presence-requires-clause-space
add_presence-requires-clause-space c =
    let i = c.self.inside in
    let s = c.self.invariant in
    let whole = slot_space i.presence.block i.block i.presence.channels 1 i.format.frames i.capacity i.presence.capacity c.frames_before-skipped.result s.came_block s.one_channel s.enough_capacity s.came_capacity in
    omega arith

pub returns-clause-came : goal.returns-clause-came
returns-clause-came c = subst (λ (l : LaneState). length l.presence ≡ frames_left l.format.frames l.position l.slot * 1) c.self.view_is (ap length c.self.invariant.presence ∙ c.self.invariant.came_left)

pub returns-clause-left : goal.returns-clause-left
returns-clause-left c = subst (λ (l : LaneState). length l.values ≡ frames_left l.format.frames l.position l.slot * l.format.channels) c.self.view_is c.self.invariant.left

pub overflow_sub-from : goal.overflow_sub-from
overflow_sub-from c =
    let i = c.self.inside in
    let s = c.self.invariant in
    let left = left_is (goal.at.overflow_sub-from c).After-frames_between in
    let wanted : frames_left i.format.frames i.position i.slot < i.block = wanted_left (lane_of i.format i.start i.block i.position i.slot i.quiet i.ended i.capacity i.values.values i.presence.values (take i.block i.present)) s.some_block (subst (λ (l : LaneState). is_wanting l (l.position +ℤ pos l.block) ≡ true) (sym c.self.view_is) c.requires.wanted) in
    omega (arith, left, wanted, c.from.ensures)

pub add_slot-requires-clause-space : goal.add_slot-requires-clause-space
add_slot-requires-clause-space c =
    let i = c.self.inside in
    let s = c.self.invariant in
    slot_space i.values.block i.block i.values.channels i.format.channels i.format.frames i.capacity i.values.capacity c.frames_before-skipped.result s.held_block s.channels s.enough_capacity s.capacity

pub add_slot-requires-clause-len : goal.add_slot-requires-clause-len
add_slot-requires-clause-len c = grind (arith, elements)

pub overflow_sub-before : goal.overflow_sub-before
overflow_sub-before c = grind (arith, common_steps)
