use Rattle.std.proofs.lemmas.Grind.{elements}
use Rattle.std.proofs.Common.{◌≡◌, ◌<◌, ◌≤◌, ◌+◌, ◌∙◌, [], length, sym, subst, arith, to_z, of_z, w64}
use Rattle.std.proofs.lemmas.Int.{to_z-of_z}
use Rattle.rtp_stream.specs.declared.mark.PacketFormat.{PacketFormat}
use Rattle.lane_align.specs.Lane.{HasFeed}
use Rattle.studio_mix.specs.Feed.{unfed}
use Rattle.studio_mix.specs.Lanes.{AreFed}
use Rattle.studio_mix.proofs.NewLemmas.{AreNew, new_more, all_new, all_capacities}
use Rattle.studio_mix.proofs.lanes.new_lanes.Goals as goal

pub loop-stream-preserved : goal.loop-stream-preserved
loop-stream-preserved c =
    let f = c.format-format.ensures in
    let start = to_z-of_z w64 c.args.start c.ranges.start in
    let new : HasFeed c.stream-item.result (to_z w64 (of_z w64 c.args.start)) c.args.block c.in_ok-lane.lane [] (to_z w64 (of_z w64 c.args.start)) = c.in_ok-lane.ensures.stands in
    subst (λ l. AreNew (to_z w64 (of_z w64 c.args.start)) c.args.block c.args.lag c.args.streams.now l (c.loop-stream.stream-index + 1)) (sym c.in_ok-push.ensures.items)
    (new_more (to_z w64 (of_z w64 c.args.start)) c.args.block c.args.lag c.args.streams.now c.loop-stream.lanes.items c.loop-stream.stream-index c.stream-item.result c.in_ok-lane.lane c.loop-stream.invariant c.loop-stream-test.true c.stream-item.is new (c.in_ok-lane.ensures.space ∙ c.capacity_for-capacity.ensures.value)
    (subst (λ (g : PacketFormat). 0 < g.channels) f.value f.some) (subst (λ (g : PacketFormat). g.channels ≤ 64) f.value f.few))

pub returns-clause-fed : goal.returns-clause-fed
returns-clause-fed c =
    let end : c.loop-stream.stream-index ≡ length c.args.streams.now = omega (arith, c.loop-stream-test.false, c.loop-stream.auto.stream-index-end) in
    subst (λ s. AreFed s c.args.block c.loop-stream.lanes.items (unfed c.args.streams.now) s) (to_z-of_z w64 c.args.start c.ranges.start)
    (all_new (to_z w64 (of_z w64 c.args.start)) c.args.block c.args.lag c.args.streams.now c.loop-stream.lanes.items c.loop-stream.stream-index c.loop-stream.invariant end)

pub returns-clause-capacities : goal.returns-clause-capacities
returns-clause-capacities c =
    let end : c.loop-stream.stream-index ≡ length c.args.streams.now = omega (arith, c.loop-stream-test.false, c.loop-stream.auto.stream-index-end) in
    all_capacities (to_z w64 (of_z w64 c.args.start)) c.args.block c.args.lag c.args.streams.now c.loop-stream.lanes.items c.loop-stream.stream-index c.loop-stream.invariant end

pub returns-clause-channels : goal.returns-clause-channels
returns-clause-channels c = grind (arith, elements)

pub loop-stream-init : goal.loop-stream-init
loop-stream-init c = grind (arith, elements)
