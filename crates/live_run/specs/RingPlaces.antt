-- The places of the rings between a run's workers.
use Rattle.std.specs.Prelude.{ℕ, ◌+◌, ◌-◌, ◌/◌, max, List}
use Rattle.std.specs.List.{fold}
use Rattle.rtp_stream.specs.declared.stream_spec.Stream.{Stream}
use Rattle.studio_config.specs.Studio.{Studio}
use Rattle.live_io.specs.MixSpans.{greatest_latency}

-- the places of a stream's rings, if the greatest latency of all streams is `greatest`: 256, and one for each packet by
-- which the stream is ahead of the mix
abbrev pub places_for : ℕ → Stream → ℕ
places_for greatest stream = (greatest - stream.latency) / stream.frames + 256

abbrev pub places_with : ℕ → ℕ → Stream → ℕ
places_with greatest most stream = max most (places_for greatest stream)

-- the places of each ring of a studio: those of the stream that needs most
abbrev pub ring_places : Studio → ℕ
ring_places studio = fold (places_with (greatest_latency studio.streams)) 256 studio.streams
