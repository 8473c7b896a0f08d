use Rattle.std.proofs.lemmas.Grind.{elements}
use Rattle.std.specs.Prelude.{option_copied}
use Rattle.std.proofs.Common.{◌+◌, arith}
use Rattle.rtp_stream.specs.MarkRef.{body_from}
use Rattle.lane_align.proofs.SlotLemmas.{part_added}
use Rattle.lane_align.proofs.slot_samples.add_slot.Goals as goal

pub returns-clause-added : goal.returns-clause-added
returns-clause-added c =
    part_added c.args.values.now c.add.new.self c.args.format (body_from (option_copied c.args.payload)) c.read_slot.new.buffer (c.args.silent + c.args.gap) c.args.skipped c.from-channels.result c.from-frames.result
    c.from-channels.ensures c.from-frames.ensures c.read_slot.ensures.samples c.add.ensures

pub add-requires-clause-block_end : goal.add-requires-clause-block_end
add-requires-clause-block_end c = omega arith

pub add-requires-clause-space : goal.add-requires-clause-space
add-requires-clause-space c = grind (arith, elements)

pub slice_bounds-add-count : goal.slice_bounds-add-count
slice_bounds-add-count c = grind (arith, elements)

pub slice_bounds-add-start : goal.slice_bounds-add-start
slice_bounds-add-start c = grind (arith, elements)

pub slice_bounds-add-end : goal.slice_bounds-add-end
slice_bounds-add-end c = grind (arith, elements)
