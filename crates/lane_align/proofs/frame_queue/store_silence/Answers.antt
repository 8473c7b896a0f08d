use Rattle.lane_align.proofs.HeldLemmas.{frame_stored}
use Rattle.lane_align.proofs.frame_queue.store_silence.Goals as goal

pub loop-i-preserved : goal.loop-i-preserved
loop-i-preserved c = frame_stored c.args.stored.now.items c.args.channels c.loop-i._i c.args.frames c.args.stored.now.capacity c.loop-i.stored c.fill_from_slice.new.self c.fill_from_slice.result c.loop-i.invariant c.fill_from_slice.ensures.count c.fill_from_slice.ensures.items c.requires.few_channels c.requires.space c.loop-i-test.true
