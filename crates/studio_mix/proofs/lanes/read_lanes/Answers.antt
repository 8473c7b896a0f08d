use Rattle.std.proofs.lemmas.Grind.{common_steps}
use Rattle.std.proofs.Common.{◌≡◌, get_or, refl, ap, arith}
use Rattle.lane_align.specs.Lane.{LaneState}
use Rattle.studio_mix.proofs.BlockLemmas.{read_alone}
use Rattle.studio_mix.proofs.lanes.read_lanes.Goals as goal

pub returns-then-lanes-eq1 : goal.returns-then-lanes-eq1
returns-then-lanes-eq1 c =
    let lanes = c.args.lanes.now in
    let lane : LaneState = get_or lanes 0 c.index-lanes-0.result in
    let is : lane ≡ get_or lanes 0 lane = ap (get_or lanes 0) c.index-lanes-0.is in
    let read = c.read_block.ensures in
    read_alone lanes c.args.ins.now c.read_block.new.out c.args.frames c.args.width lane.format.channels lane c.read_block.new.self
    c.if-lanes-eq1.true c.requires.width is
    (record {
      wide = refl;
      facts = read.facts;
      position = read.position;
      values = λ stream from marks t. read.values stream from c.args.frames marks t;
      stands = λ stream from marks t. read.stands stream from c.args.frames marks t;
      present = λ stream from marks t. read.present stream from c.args.frames marks t;
    })
    c.requires.in_24_bits read.in_24_bits

pub read_block-requires-clause-len : goal.read_block-requires-clause-len
read_block-requires-clause-len c = grind (arith, common_steps)
