use Rattle.std.proofs.lemmas.Grind.{elements}
use Rattle.std.proofs.Common.{arith}
use Rattle.std.specs.Prelude.{option_copied}
use Rattle.rtp_stream.specs.MarkRef.{body_from}
use Rattle.lane_align.proofs.SlotLemmas.{part_added}
use Rattle.lane_align.proofs.slot_samples.append_slot.Goals as goal

pub returns-clause-added : goal.returns-clause-added
returns-clause-added c =
    part_added c.args.values.now c.append.new.self c.args.format (body_from (option_copied c.args.payload)) c.read_slot.new.buffer c.args.silent c.args.skipped c.from-channels.result c.from-frames.result
    c.from-channels.ensures c.from-frames.ensures c.read_slot.ensures.samples c.append.ensures

pub slice_bounds-append-start : goal.slice_bounds-append-start
slice_bounds-append-start c = grind (arith, elements)

pub slice_bounds-append-count : goal.slice_bounds-append-count
slice_bounds-append-count c = grind (arith, elements)

pub append-requires : goal.append-requires
append-requires c = grind (arith, elements)
