use Rattle.std.proofs.Common.{◌≡◌, ℕ, ◌<◌, Some, slice_get}
use Rattle.rtp_stream.specs.declared.stream_spec.Stream.{Stream}
use Rattle.rtp_stream.specs.StreamSpecFacts.{IsStream}
use Rattle.studio_session.proofs.fault.are_streams.Given as goal

-- the streams so far are sound
abbrev pub invariant-loop-stream : goal.invariant-loop-stream
invariant-loop-stream l = (i : ℕ) (stream : Stream) → i < l.stream-index → slice_get l.streams i ≡ Some stream → IsStream stream
