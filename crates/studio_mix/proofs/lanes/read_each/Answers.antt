use Rattle.std.proofs.lemmas.Grind.{common_steps, elements}
use Rattle.std.proofs.Common.{◌≡◌, ◌<◌, length, get_or, ap, ◌∙◌, arith}
use Rattle.std.proofs.lemmas.List.Sums.{sum_by_more_le}
use Rattle.rtp_stream.specs.declared.mark.PacketFormat.{PacketFormat}
use Rattle.lane_align.specs.Lane.{LaneState}
use Rattle.studio_mix.proofs.BlockLemmas.{read_start, read_more, were_read}
use Rattle.studio_mix.proofs.lanes.read_each.Goals as goal

pub loop-lane-init : goal.loop-lane-init
loop-lane-init c = read_start c.args.lanes.now c.args.ins.now c.args.frames c.args.width c.requires.in_24_bits

pub lay_stream-requires-clause-within : goal.lay_stream-requires-clause-within
lay_stream-requires-clause-within c =
    let first = c.args.lanes.now in
    let i = c.loop-lane.lane-index in
    let lane : LaneState = get_or c.loop-lane.lanes i c.lane-item.result in
    let is : lane ≡ get_or c.loop-lane.lanes i lane = ap (get_or c.loop-lane.lanes i) c.lane-item.is in
    let inv = c.loop-lane.invariant in
    let count = inv.count in
    let h : i < length first = omega (arith, count, c.loop-lane-test.true) in
    let as_first : lane ≡ get_or first i lane = is ∙ inv.others i lane (omega arith) in
    let wide : c.from-channels.result ≡ (get_or first i lane).format.channels = c.from-channels.ensures ∙ ap (λ (f : PacketFormat). f.channels) c.format.ensures.value ∙ ap (λ (l : LaneState). l.format.channels) as_first in
    let sum = sum_by_more_le (λ (l : LaneState). l.format.channels) first i lane h in
    let at = inv.at_is in
    let width = c.requires.width in
    omega (arith, sum, at, width, wide)

pub loop-lane-preserved : goal.loop-lane-preserved
loop-lane-preserved c =
    let first = c.args.lanes.now in
    let i = c.loop-lane.lane-index in
    let lane : LaneState = get_or c.loop-lane.lanes i c.lane-item.result in
    let is : lane ≡ get_or c.loop-lane.lanes i lane = ap (get_or c.loop-lane.lanes i) c.lane-item.is in
    let inv = c.loop-lane.invariant in
    let count = inv.count in
    let h : i < length first = omega (arith, count, c.loop-lane-test.true) in
    let read = c.read_block.ensures in
    read_more first c.loop-lane.lanes c.loop-lane.ins c.lay_stream.new.wide c.args.frames c.args.width c.loop-lane.at i c.from-channels.result lane c.read_block.new.self c.read_block.new.out
    inv h is
    (record {
      wide = c.from-channels.ensures ∙ ap (λ (f : PacketFormat). f.channels) c.format.ensures.value;
      facts = read.facts;
      position = read.position;
      values = λ stream from marks t. read.values stream from c.args.frames marks t;
      stands = λ stream from marks t. read.stands stream from c.args.frames marks t;
      present = λ stream from marks t. read.present stream from c.args.frames marks t;
    })
    c.lay_stream.ensures.laid c.lay_stream.ensures.in_24_bits

pub returns : goal.returns
returns c =
    let inv = c.loop-lane.invariant in
    let count = inv.count in
    were_read c.args.lanes.now c.loop-lane.lanes c.loop-lane.ins c.args.frames c.args.width c.loop-lane.at c.loop-lane.lane-index inv (omega (arith, count, c.loop-lane-test.false)) c.requires.width

pub lay_stream-requires-clause-values : goal.lay_stream-requires-clause-values
lay_stream-requires-clause-values c = grind (arith, elements)

pub slice_bounds-values-end-in-loop-lane : goal.slice_bounds-values-end-in-loop-lane
slice_bounds-values-end-in-loop-lane c = grind (arith, common_steps)

pub read_block-requires-clause-len : goal.read_block-requires-clause-len
read_block-requires-clause-len c = grind (arith, elements)

pub overflow_add-at : goal.overflow_add-at
overflow_add-at c = grind (arith, common_steps)
