use Rattle.std.proofs.lemmas.Grind.{common_steps, elements}
use Rattle.std.specs.Prelude.{option_copied}
use Rattle.std.proofs.Common.{◌≡◌, ◌≤◌, ◌-◌, ◌*◌, min, pos, ◌+ℤ◌, Some, length, take, ap, sym, subst, ◌∙◌, refl, arith, to_z, of_z, w64}
use Rattle.std.proofs.lemmas.Int.{ints}
use Rattle.rtp_stream.specs.MarkFacts.{HasLength, payload_length}
use Rattle.rtp_stream.specs.MarkRef.{body_from}
use Rattle.lane_align.specs.HeldValues.{Held}
use Rattle.lane_align.specs.Lane.{LaneState, IsAfter, frames_between, frames_left, with_slot}
use Rattle.lane_align.proofs.LaneLemmas.{lane_of}
use Rattle.lane_align.proofs.SlotLemmas.{slot_joined, presence_joined, slot_sound, kept_space, kept_presence}
use Rattle.lane_align.proofs.lane.Lane.keep_slot.Goals.{After-append_slot, After-append_presence, After-frames_between, After-frames_before-skipped}
use Rattle.lane_align.proofs.lane.Lane.keep_slot.Goals as goal

-- the frames that the lane holds, and those between the position of the lane and the slot
left_is : (c : After-frames_between) → c.frames_left-held.result ≡ frames_left c.self.inside.format.frames c.self.inside.position c.self.inside.slot
left_is c =
    let early = c.self.invariant.not_early in
    let late = c.self.invariant.not_late in
    let same : to_z w64 (of_z w64 c.self.inside.position) ≡ c.self.inside.position = omega (arith, ints) in
    c.frames_left-held.ensures ∙ ap (λ t. frames_left c.self.inside.format.frames t c.self.inside.slot) same

before_is : (c : After-frames_between) → c.frames_between.result ≡ frames_between c.self.inside.position c.args.slot.media
before_is c =
    let early = c.self.invariant.not_early in
    let late = c.self.invariant.not_late in
    let low = c.requires.small.2.0 in
    let high = c.requires.small.2.1 in
    let same : to_z w64 (of_z w64 c.self.inside.position) ≡ c.self.inside.position = omega (arith, ints) in
    let same_media : to_z w64 (of_z w64 c.args.slot.media) ≡ c.args.slot.media = omega (arith, ints) in
    c.frames_between.ensures ∙ ap (λ t. frames_between t (to_z w64 (of_z w64 c.args.slot.media))) same ∙ ap (frames_between c.self.inside.position) same_media

gap_is : (c : After-frames_between) → c.frames_between.result - c.frames_left-held.result ≡ frames_between c.self.inside.position c.args.slot.media - frames_left c.self.inside.format.frames c.self.inside.position c.self.inside.slot
gap_is c = ap (λ n. n - c.frames_left-held.result) (before_is c) ∙ ap (λ n. frames_between c.self.inside.position c.args.slot.media - n) (left_is c)

skipped_is : (c : After-frames_before-skipped) → c.frames_before-skipped.result ≡ min (frames_between c.args.slot.media c.self.inside.position) c.self.inside.format.frames
skipped_is c =
    let early = c.self.invariant.not_early in
    let late = c.self.invariant.not_late in
    let low = c.requires.small.2.0 in
    let high = c.requires.small.2.1 in
    let i = c.self.inside in
    let same : to_z w64 (of_z w64 i.position) ≡ i.position = omega (arith, ints) in
    let same_media : to_z w64 (of_z w64 c.args.slot.media) ≡ c.args.slot.media = omega (arith, ints) in
    c.frames_before-skipped.ensures ∙ ap (λ t. min (frames_between t (to_z w64 (of_z w64 i.position))) i.format.frames) same_media ∙ ap (λ t. min (frames_between c.args.slot.media t) i.format.frames) same

after_is : (c : After-frames_before-skipped) → IsAfter c.self.inside.format.frames c.self.inside.slot c.args.slot.media
after_is c = subst (λ (l : LaneState). IsAfter l.format.frames l.slot c.args.slot.media) (sym c.self.view_is) c.requires.after

fits_is : (c : After-frames_before-skipped) → HasLength (payload_length c.self.inside.format) (body_from (option_copied c.args.payload))
fits_is c = subst (λ (l : LaneState). HasLength (payload_length l.format) (body_from (option_copied c.args.payload))) (sym c.self.view_is) c.requires.len

space_is : (c : After-frames_before-skipped) → frames_between c.self.inside.position (c.args.slot.media +ℤ pos c.self.inside.format.frames) ≤ c.self.inside.capacity
space_is c = subst (λ (l : LaneState). frames_between l.position (c.args.slot.media +ℤ pos l.format.frames) ≤ l.capacity) (sym c.self.view_is) c.requires.space

pub append_slot-requires-clause-space : goal.append_slot-requires-clause-space
append_slot-requires-clause-space c =
    let at = goal.at.append_slot-requires-clause-space c in
    kept_space (lane_of c.self.inside.format c.self.inside.start c.self.inside.block c.self.inside.position c.self.inside.slot c.self.inside.quiet c.self.inside.ended c.self.inside.capacity c.self.inside.values.values c.self.inside.presence.values (take c.self.inside.block c.self.inside.present)) c.self.inside.values c.self.inside.presence c.args.slot (body_from (option_copied c.args.payload)) (c.frames_between.result - c.frames_left-held.result) (frames_between c.args.slot.media c.self.inside.position) c.frames_before-skipped.result
    c.self.invariant (fits_is at.After-frames_before-skipped) (gap_is at.After-frames_between) refl (skipped_is at.After-frames_before-skipped) (after_is at.After-frames_before-skipped) (space_is at.After-frames_before-skipped)

pub append_presence-requires-clause-space : goal.append_presence-requires-clause-space
append_presence-requires-clause-space c =
    let at = goal.at.append_presence-requires-clause-space c in
    kept_presence (lane_of c.self.inside.format c.self.inside.start c.self.inside.block c.self.inside.position c.self.inside.slot c.self.inside.quiet c.self.inside.ended c.self.inside.capacity c.self.inside.values.values c.self.inside.presence.values (take c.self.inside.block c.self.inside.present)) c.self.inside.values c.self.inside.presence c.args.slot (body_from (option_copied c.args.payload)) (c.frames_between.result - c.frames_left-held.result) (frames_between c.args.slot.media c.self.inside.position) c.frames_before-skipped.result
    c.self.invariant (gap_is at.After-frames_between) refl (skipped_is at.After-frames_before-skipped) (after_is at.After-frames_before-skipped) (space_is at.After-frames_before-skipped)

-- the values that the lane holds after the slot, and the presence
joined_is : (c : After-append_slot) → HasLength (payload_length c.self.inside.format) (body_from (option_copied c.args.payload))
    → c.frames_between.result - c.frames_left-held.result ≡ frames_between c.self.inside.position c.args.slot.media - frames_left c.self.inside.format.frames c.self.inside.position c.self.inside.slot
    → c.frames_before-skipped.result ≡ min (frames_between c.args.slot.media c.self.inside.position) c.self.inside.format.frames
    → c.append_slot.new.values ≡ record c.self.inside.values { values = (with_slot (lane_of c.self.inside.format c.self.inside.start c.self.inside.block c.self.inside.position c.self.inside.slot c.self.inside.quiet c.self.inside.ended c.self.inside.capacity c.self.inside.values.values c.self.inside.presence.values (take c.self.inside.block c.self.inside.present)) c.args.slot (body_from (option_copied c.args.payload))).values }
joined_is c fits gap skipped =
    slot_joined (lane_of c.self.inside.format c.self.inside.start c.self.inside.block c.self.inside.position c.self.inside.slot c.self.inside.quiet c.self.inside.ended c.self.inside.capacity c.self.inside.values.values c.self.inside.presence.values (take c.self.inside.block c.self.inside.present)) c.self.inside.values c.self.inside.presence c.append_slot.new.values c.args.slot (body_from (option_copied c.args.payload)) (c.frames_between.result - c.frames_left-held.result) (frames_between c.args.slot.media c.self.inside.position) c.frames_before-skipped.result
    c.self.invariant fits gap refl skipped c.append_slot.ensures.added

arrived_is : (c : After-append_presence)
    → c.frames_between.result - c.frames_left-held.result ≡ frames_between c.self.inside.position c.args.slot.media - frames_left c.self.inside.format.frames c.self.inside.position c.self.inside.slot
    → c.frames_before-skipped.result ≡ min (frames_between c.args.slot.media c.self.inside.position) c.self.inside.format.frames
    → c.append_presence.new.presence ≡ record c.self.inside.presence { values = (with_slot (lane_of c.self.inside.format c.self.inside.start c.self.inside.block c.self.inside.position c.self.inside.slot c.self.inside.quiet c.self.inside.ended c.self.inside.capacity c.self.inside.values.values c.self.inside.presence.values (take c.self.inside.block c.self.inside.present)) c.args.slot (body_from (option_copied c.args.payload))).presence }
arrived_is c gap skipped =
    presence_joined (lane_of c.self.inside.format c.self.inside.start c.self.inside.block c.self.inside.position c.self.inside.slot c.self.inside.quiet c.self.inside.ended c.self.inside.capacity c.self.inside.values.values c.self.inside.presence.values (take c.self.inside.block c.self.inside.present)) c.self.inside.values c.self.inside.presence c.append_presence.new.presence c.args.slot (body_from (option_copied c.args.payload)) (c.frames_between.result - c.frames_left-held.result) (frames_between c.args.slot.media c.self.inside.position) c.frames_before-skipped.result
    c.self.invariant gap refl skipped c.append_presence.ensures

pub invariant_of-self : goal.invariant_of-self
invariant_of-self c =
    let at = goal.at.invariant_of-self c in
    let i = c.self.inside in
    let fits = fits_is at.After-frames_before-skipped in
    let gap = gap_is at.After-frames_between in
    let skipped = skipped_is at.After-frames_before-skipped in
    slot_sound (lane_of i.format i.start i.block i.position i.slot i.quiet i.ended i.capacity i.values.values i.presence.values (take i.block i.present)) i.values i.presence c.append_slot.new.values c.append_presence.new.presence c.args.slot (body_from (option_copied c.args.payload)) (take i.block i.present) c.self.invariant c.requires.small fits (after_is at.After-frames_before-skipped) (joined_is at.After-append_slot fits gap skipped) (arrived_is at.After-append_presence gap skipped) c.append_slot.ensures.in_24_bits

pub returns-clause-taken : goal.returns-clause-taken
returns-clause-taken c =
    let i = c.self.inside in
    let at = goal.at.returns-clause-taken c in
    let gap = gap_is at.After-frames_between in
    let skipped = skipped_is at.After-frames_before-skipped in
    ap (λ (h : Held). lane_of i.format i.start i.block i.position (Some c.args.slot) i.quiet i.ended i.capacity h.values c.append_presence.new.presence.values (take i.block i.present)) (joined_is at.After-append_slot (fits_is at.After-frames_before-skipped) gap skipped)
    ∙ ap (λ (h : Held). lane_of i.format i.start i.block i.position (Some c.args.slot) i.quiet i.ended i.capacity (with_slot (lane_of i.format i.start i.block i.position i.slot i.quiet i.ended i.capacity i.values.values i.presence.values (take i.block i.present)) c.args.slot (body_from (option_copied c.args.payload))).values h.values (take i.block i.present)) (arrived_is at.After-append_presence gap skipped)
    ∙ ap (λ (l : LaneState). with_slot l c.args.slot (body_from (option_copied c.args.payload))) c.self.view_is

pub returns-clause-came : goal.returns-clause-came
returns-clause-came c = subst (λ (l : LaneState). length l.presence ≡ frames_left l.format.frames l.position l.slot * 1) c.self.view_is (ap length c.self.invariant.presence ∙ c.self.invariant.came_left)

pub returns-clause-left : goal.returns-clause-left
returns-clause-left c = subst (λ (l : LaneState). length l.values ≡ frames_left l.format.frames l.position l.slot * l.format.channels) c.self.view_is c.self.invariant.left

pub overflow_sub-before : goal.overflow_sub-before
overflow_sub-before c = grind (arith, common_steps)

pub append_slot-requires-clause-len : goal.append_slot-requires-clause-len
append_slot-requires-clause-len c = grind (arith, elements)
