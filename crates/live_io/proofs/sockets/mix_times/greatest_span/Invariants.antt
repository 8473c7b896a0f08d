use Rattle.std.proofs.Common.{◌≡◌, ◌*◌, ◌≤◌, take}
use Rattle.live_io.specs.MixSpans.{greatest_span}
use Rattle.live_io.proofs.sockets.mix_times.greatest_span.Given as goal

abbrev pub invariant-loop-stream : goal.invariant-loop-stream
invariant-loop-stream l = (l.most ≡ greatest_span (take l.stream-index l.streams)) × (l.most ≤ 65535 * 65535)
