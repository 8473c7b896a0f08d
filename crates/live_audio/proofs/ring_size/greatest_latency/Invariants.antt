use Rattle.std.proofs.Common.{◌≡◌, ◌<◌, ◌≤◌, ℕ, slice_get, Some}
use Rattle.rtp_stream.specs.declared.stream_spec.Stream.{Stream}
use Rattle.live_audio.proofs.ring_size.greatest_latency.Given as goal

-- no stream so far has a greater one
abbrev pub invariant-loop-number : goal.invariant-loop-number
invariant-loop-number l = (place : ℕ) (spec : Stream) → place < l.number → slice_get l.streams place ≡ Some spec → spec.latency ≤ l.greatest
