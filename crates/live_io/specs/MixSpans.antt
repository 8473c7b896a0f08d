-- The spans of streams' windows, and their latencies.
use Rattle.std.specs.Prelude.{ℕ, ◌*◌, max, List}
use Rattle.std.specs.List.{fold}
use Rattle.rtp_stream.specs.declared.stream_spec.Stream.{Stream}

-- the sampling instants that a stream's window spans
abbrev pub span_of : Stream → ℕ
span_of stream = stream.window * stream.frames

-- the greatest latency, and the greatest span, with those of one more stream
abbrev pub latency_with : ℕ → Stream → ℕ
latency_with most stream = max most stream.latency

abbrev pub span_with : ℕ → Stream → ℕ
span_with most stream = max most (span_of stream)

-- the greatest latency of streams, and the greatest span of their windows
abbrev pub greatest_latency : List Stream → ℕ
greatest_latency streams = fold latency_with 0 streams

abbrev pub greatest_span : List Stream → ℕ
greatest_span streams = fold span_with 0 streams
