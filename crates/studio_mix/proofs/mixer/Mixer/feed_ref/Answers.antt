use Rattle.std.proofs.lemmas.Grind.{common_steps, elements}
use Rattle.std.proofs.Common.{sym, ap, subst, ◌∙◌, arith}
use Rattle.std.proofs.Math.Seq.{map-set_same}
use Rattle.lane_align.specs.Lane.{LaneState}
use Rattle.mix_packets.specs.Block.{block_start}
use Rattle.studio_mix.specs.Mixer.{MixerState, HasFeeds}
use Rattle.studio_mix.specs.LaneCapacity.{capacities_of}
use Rattle.studio_mix.proofs.MixerLemmas.{fed_at, fed_more, all_at}
use Rattle.studio_mix.proofs.SaturatedLemmas.{longer_set, saturated_longer}
use Rattle.studio_mix.proofs.LastLemmas.{last_longer}
use Rattle.studio_mix.proofs.mixer.Mixer.feed_ref.Goals as goal

pub returns-clause-stands : goal.returns-clause-stands
returns-clause-stands c = λ studio feeds number feed fed at.
    let i = c.self.inside in
    let mixer : MixerState = record { lanes = i.lanes.items; schedule = i.schedule; packer = i.packer; saturated = i.saturated.items; inputs = i.ins.items; missing = i.missing } in
    let fed' : HasFeeds studio mixer feeds number = subst (λ m. HasFeeds studio m feeds number) (sym c.self.view_is) fed in
    let fed_lane =
    c.feed_ref.ensures.stands feed.stream studio.output.start studio.output.frames feed.marks (block_start studio.output number)
    (fed_at _ _ i.lanes.items feeds (λ k. block_start studio.output number) c.args.stream c.index_mut-lane.result.now feed (all_at _ _ _ _ _ fed'.lanes) c.index_mut-lane.ensures.value at) in
    let longer = longer_set studio i.lanes.items feeds c.args.stream c.feed_ref.new.self feed c.args.mark.now (block_start studio.output number) fed'.lanes at fed_lane in
    fed_more studio mixer feeds number c.args.stream c.feed_ref.new.self feed c.args.mark.now fed' at fed_lane
    (saturated_longer studio feeds _ number i.saturated.items longer fed'.saturated)
    (last_longer studio feeds _ number i.ins.items i.missing longer fed'.saturated.final fed'.last)

pub returns-clause-capacities : goal.returns-clause-capacities
returns-clause-capacities c =
    let i = c.self.inside in
    map-set_same (λ (l : LaneState). l.capacity) i.lanes.items c.args.stream c.feed_ref.new.self c.index_mut-lane.result.now (c.feed_ref.ensures.facts.capacity ∙ ap (λ (l : LaneState). l.capacity) c.index_mut-lane.ensures.value)
    ∙ ap (λ (m : MixerState). capacities_of m.lanes) c.self.view_is

pub feed_ref-requires-clause-wanted : goal.feed_ref-requires-clause-wanted
feed_ref-requires-clause-wanted c = grind (arith, elements)

pub feed_ref-requires-clause-accepted : goal.feed_ref-requires-clause-accepted
feed_ref-requires-clause-accepted c = grind (arith, elements)

pub index_mut-lane-requires : goal.index_mut-lane-requires
index_mut-lane-requires c = grind (arith, elements)

pub invariant_of-self : goal.invariant_of-self
invariant_of-self c = grind (arith, common_steps)

pub returns-clause-streams : goal.returns-clause-streams
returns-clause-streams c = grind (arith, elements)
