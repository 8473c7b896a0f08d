use Rattle.std.proofs.lemmas.Grind.{elements}
use Rattle.std.proofs.Common.{◌≡◌, ◌&&◌, ◌+ℤ◌, Bool, pos, refl, sym, ap, subst, ◌∙◌, arith, to_z, of_z, w64, true}
use Rattle.std.proofs.lemmas.Int.{ints}
use Rattle.std.specs.List.{list_all, list_any, All}
use Rattle.lane_align.specs.Cover.{covers}
use Rattle.lane_align.specs.Lane.{LaneState, cover_at}
use Rattle.mix_packets.specs.declared.out_spec.Output.{Output}
use Rattle.studio_mix.specs.Lanes.{IsReadyLane, reaches_past}
use Rattle.studio_mix.specs.Mixer.{MixerState, HasFeeds}
use Rattle.studio_mix.proofs.ReadyLemmas.{ready_answer, ready_lanes}
use Rattle.studio_mix.proofs.mixer.Mixer.is_ready.Goals as goal

pub returns-then-are_covered-clause-stands : goal.returns-then-are_covered-clause-stands
returns-then-are_covered-clause-stands c = λ studio feeds number fed.
    let i = c.self.inside in
    let sound = c.self.invariant in
    let mixer : MixerState = record { lanes = i.lanes.items; schedule = i.schedule; packer = i.packer; saturated = i.saturated.items; inputs = i.ins.items; missing = i.missing } in
    let fed' : HasFeeds studio mixer feeds number = subst (λ m. HasFeeds studio m feeds number) (sym c.self.view_is) fed in
    let late = sound.not_late in
    let few = sound.out_ok.few_frames in
    let now : to_z w64 (of_z w64 i.time) ≡ i.time = omega (arith, ints) in
    let same : to_z w64 (of_z w64 (to_z w64 (of_z w64 i.time) +ℤ to_z w64 (of_z w64 c.from.result))) ≡ i.time +ℤ pos i.output.frames = omega (arith, ints, c.from.ensures, c.frames.ensures.value) in
    ap (λ b. b && c.reach_past.result) (sym c.if-are_covered.true)
    ∙ ready_answer studio mixer feeds number i.output i.time i.one.items i.ins.items i.outs.items sound fed' _ _ _ _ same now c.as_slice.ensures.value c.as_slice-then-are_covered.ensures.value c.are_covered.result c.reach_past.result c.are_covered.ensures c.reach_past.ensures.value

pub returns-then-are_covered-clause-lanes : goal.returns-then-are_covered-clause-lanes
returns-then-are_covered-clause-lanes c = λ yes'.
    let i = c.self.inside in
    let sound = c.self.invariant in
    let late = sound.not_late in
    let few = sound.out_ok.few_frames in
    let same : to_z w64 (of_z w64 (to_z w64 (of_z w64 i.time) +ℤ to_z w64 (of_z w64 c.from.result))) ≡ i.time +ℤ pos i.output.frames = omega (arith, ints, c.from.ensures, c.frames.ensures.value) in
    let covered : list_all (λ (lane : LaneState). covers (cover_at lane) (i.time +ℤ pos i.output.frames)) i.lanes.items ≡ true =
    sym (c.are_covered.ensures ∙ ap (λ t. list_all (λ (lane : LaneState). covers (cover_at lane) t) c.as_slice.result.now) same ∙ ap (list_all (λ (lane : LaneState). covers (cover_at lane) (i.time +ℤ pos i.output.frames))) c.as_slice.ensures.value) ∙ c.if-are_covered.true in
    subst (λ (m : MixerState). All (IsReadyLane m.packer.spec.frames) m.lanes) c.self.view_is
    (subst (λ (o : Output). All (IsReadyLane o.frames) i.lanes.items) sound.out_is
    (ready_lanes i.output.frames i.time i.lanes.items sound.each_lane late covered))

pub returns-else-are_covered-clause-stands : goal.returns-else-are_covered-clause-stands
returns-else-are_covered-clause-stands c = λ studio feeds number fed.
    let i = c.self.inside in
    let sound = c.self.invariant in
    let mixer : MixerState = record { lanes = i.lanes.items; schedule = i.schedule; packer = i.packer; saturated = i.saturated.items; inputs = i.ins.items; missing = i.missing } in
    let fed' : HasFeeds studio mixer feeds number = subst (λ m. HasFeeds studio m feeds number) (sym c.self.view_is) fed in
    let late = sound.not_late in
    let few = sound.out_ok.few_frames in
    let same : to_z w64 (of_z w64 (to_z w64 (of_z w64 i.time) +ℤ to_z w64 (of_z w64 c.from.result))) ≡ i.time +ℤ pos i.output.frames = omega (arith, ints, c.from.ensures, c.frames.ensures.value) in
    let past : Bool = list_any (reaches_past i.time) i.lanes.items in
    c.if-are_covered.false
    ∙ ap (λ b. b && past) (sym c.if-are_covered.false)
    ∙ ready_answer studio mixer feeds number i.output i.time i.one.items i.ins.items i.outs.items sound fed' _ i.time _ i.lanes.items same refl c.as_slice.ensures.value refl c.are_covered.result past c.are_covered.ensures refl

pub reach_past-requires-clause-covered : goal.reach_past-requires-clause-covered
reach_past-requires-clause-covered c = grind (arith, elements)

pub returns-else-are_covered-clause-early : goal.returns-else-are_covered-clause-early
returns-else-are_covered-clause-early c = grind (arith, elements)

pub returns-then-are_covered-clause-early : goal.returns-then-are_covered-clause-early
returns-then-are_covered-clause-early c = grind (arith, elements)

pub returns-else-are_covered-clause-lanes : goal.returns-else-are_covered-clause-lanes
returns-else-are_covered-clause-lanes c = grind (arith, elements)

pub overflow_add-end : goal.overflow_add-end
overflow_add-end c = grind (arith, elements)
