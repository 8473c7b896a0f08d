use Rattle.std.proofs.Common.{◌≡◌, take}
use Rattle.live_io.specs.MixSpans.{greatest_latency}
use Rattle.live_io.proofs.sockets.mix_times.greatest_latency.Given as goal

abbrev pub invariant-loop-stream : goal.invariant-loop-stream
invariant-loop-stream l = l.most ≡ greatest_latency (take l.stream-index l.streams)
