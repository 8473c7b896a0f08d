use Rattle.std.proofs.Common.{◌≡◌, ◌<◌, ◌≤◌, ℕ, slice_get, Some}
use Rattle.rtp_stream.specs.declared.stream_spec.Stream.{Stream}
use Rattle.live_io.specs.ReceivePace.{pause_for}
use Rattle.live_io.proofs.sockets.pace.common_pause.Given as goal

abbrev pub invariant-loop-number : goal.invariant-loop-number
invariant-loop-number l = (place : ℕ) (spec : Stream) → place < l.number → slice_get l.streams place ≡ Some spec → l.least ≤ pause_for spec.latency
