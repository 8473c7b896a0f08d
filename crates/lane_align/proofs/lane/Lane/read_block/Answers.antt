use Rattle.std.proofs.lemmas.Grind.{elements}
use Rattle.std.proofs.Common.{◌≡◌, ◌*◌, ◌^◌, pos, ◌+ℤ◌, ◌<ℤ◌, length, take, drop, ap, sym, subst, ◌∙◌, arith, to_z, of_z, w64}
use Rattle.std.proofs.lemmas.Int.{ints}
use Rattle.lane_align.specs.HeldValues.{Held, first_values}
use Rattle.lane_align.specs.Lane.{LaneState, HasFeed, IsLane}
use Rattle.lane_align.proofs.LaneLemmas.{block_values, block_presence, block_read, block_sound, lane_of}
use Rattle.lane_align.proofs.lane.Lane.read_block.Goals as goal

pub invariant_of-self : goal.invariant_of-self
invariant_of-self c =
    let i = c.self.inside in
    let lane = lane_of i.format i.start i.block i.position i.slot i.quiet i.ended i.capacity i.values.values i.presence.values (take i.block i.present) in
    let sound = c.self.invariant in
    let late = sound.not_late in
    let early = sound.not_early in
    let short = sound.short_block in
    let moved : to_z w64 (of_z w64 (to_z w64 (of_z w64 i.position) +ℤ to_z w64 (of_z w64 c.from.result))) ≡ i.position +ℤ pos i.block = omega (arith, ints, c.from.ensures) in
    let small : i.position <ℤ pos (2 ^ 62) = subst (λ (l : LaneState). l.position <ℤ pos (2 ^ 62)) (sym c.self.view_is) c.requires.position in
    let len : length c.args.out.now ≡ i.block * i.format.channels = c.requires.len ∙ sym (ap (λ (l : LaneState). l.block * l.format.channels) c.self.view_is) in
    let rest = c.read.ensures.rest ∙ ap (λ k. record i.values { values = drop k i.values.values }) len in
    let one : c.from-frames.result ≡ i.block * 1 = omega (arith, c.from-frames.ensures) in
    let came = c.read_presence.ensures.rest ∙ ap (λ k. record i.presence { values = drop k i.presence.values }) one in
    subst (λ p. IsLane (lane_of i.format i.start i.block p i.slot i.quiet i.ended i.capacity c.read.new.self.values c.read_presence.new.presence.values (take i.block c.read_presence.new.present)) c.read.new.self c.read_presence.new.presence) (sym moved)
    (block_sound lane i.values i.presence c.read.new.self c.read_presence.new.presence (take i.block c.read_presence.new.present) sound small rest came)

pub returns-clause-values : goal.returns-clause-values
returns-clause-values c = λ stream from size marks t fed.
    let i = c.self.inside in
    c.read.ensures.values
    ∙ ap (λ k. first_values k i.values.values) c.requires.len
    ∙ ap (first_values (c.args.self.now.block * c.args.self.now.format.channels)) (ap (λ (l : LaneState). l.values) c.self.view_is)
    ∙ block_values stream from size c.args.self.now marks t fed

pub returns-clause-stands : goal.returns-clause-stands
returns-clause-stands c = λ stream from size marks t fed.
    let i = c.self.inside in
    let lane = lane_of i.format i.start i.block i.position i.slot i.quiet i.ended i.capacity i.values.values i.presence.values (take i.block i.present) in
    let sound = c.self.invariant in
    let late = sound.not_late in
    let early = sound.not_early in
    let short = sound.short_block in
    let moved : to_z w64 (of_z w64 (to_z w64 (of_z w64 i.position) +ℤ to_z w64 (of_z w64 c.from.result))) ≡ i.position +ℤ pos i.block = omega (arith, ints, c.from.ensures) in
    let len : length c.args.out.now ≡ i.block * i.format.channels = c.requires.len ∙ sym (ap (λ (l : LaneState). l.block * l.format.channels) c.self.view_is) in
    let rest = ap (λ (h : Held). h.values) c.read.ensures.rest ∙ ap (λ k. drop k i.values.values) len in
    let fed' : HasFeed stream from size lane marks t = subst (λ l. HasFeed stream from size l marks t) (sym c.self.view_is) fed in
    let one : c.from-frames.result ≡ i.block * 1 = omega (arith, c.from-frames.ensures) in
    let came = ap (λ (h : Held). h.values) c.read_presence.ensures.rest ∙ ap (λ k. drop k i.presence.values) one in
    let present = take i.block c.read_presence.new.present in
    subst (λ p. HasFeed stream from size (lane_of i.format i.start i.block p i.slot i.quiet i.ended i.capacity c.read.new.self.values c.read_presence.new.presence.values present) marks (t +ℤ pos size)) (sym moved)
    (block_read stream from size lane marks t c.read.new.self.values c.read_presence.new.presence.values present fed' rest came)

pub returns-clause-position : goal.returns-clause-position
returns-clause-position c = grind (arith, elements)

pub returns-clause-in_24_bits : goal.returns-clause-in_24_bits
returns-clause-in_24_bits c = grind (arith, elements)

pub overflow_add-self : goal.overflow_add-self
overflow_add-self c = grind (arith, elements)

pub returns-clause-end : goal.returns-clause-end
returns-clause-end c = grind (arith, elements)

pub read-requires : goal.read-requires
read-requires c = grind (arith, elements)

pub returns-clause-present : goal.returns-clause-present
returns-clause-present c = λ stream from size marks t fed.
    let i = c.self.inside in
    let one : i.block ≡ c.from-frames.result = omega (arith, c.from-frames.ensures) in
    let times : c.from-frames.result ≡ i.block * 1 = omega (arith, c.from-frames.ensures) in
    ap (λ k. take k c.read_presence.new.present) one
    ∙ c.read_presence.ensures.present
    ∙ ap (λ k. first_values k i.presence.values) times
    ∙ ap (λ (l : LaneState). first_values (l.block * 1) l.presence) c.self.view_is
    ∙ block_presence stream from size c.args.self.now marks t fed
