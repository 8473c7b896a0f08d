use Rattle.std.proofs.Common.{◌≡◌, ◌++◌}
use Rattle.lane_align.specs.HeldValues.{silence}
use Rattle.circular_buffer.specs.Buffer.{buffer}
use Rattle.lane_align.proofs.frame_queue.store_silence.Given as goal

abbrev pub invariant-loop-i : goal.invariant-loop-i
invariant-loop-i l = l.stored ≡ buffer (l.fn.stored.items ++ silence l.channels l._i) l.fn.stored.capacity
