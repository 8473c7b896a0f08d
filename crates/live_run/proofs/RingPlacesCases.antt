-- Worked cases of the places of rings, computed.
use Rattle.std.specs.Prelude.{◌≡◌, ℕ, List, [], ◌∷◌, refl}
use Rattle.std.specs.List.{fold}
use Rattle.rtp_stream.specs.declared.stream_spec.Stream.{Stream}
use Rattle.live_io.specs.MixSpans.{greatest_latency}
use Rattle.live_run.specs.RingPlaces.{places_with}

abbrev places : List Stream → ℕ
places streams = fold (places_with (greatest_latency streams)) 256 streams

-- packets of a millisecond, with latencies of 10 ms and a second: 990 packets wait for the mix
two_have_places_for_both : (stream : Stream) → places (record stream { frames = 48; latency = 480 } ∷ record stream { frames = 48; latency = 48000 } ∷ []) ≡ 1246
two_have_places_for_both stream = refl

-- without a difference there are 256
one_has_the_fewest : (stream : Stream) → places (record stream { frames = 6; latency = 960 } ∷ []) ≡ 256
one_has_the_fewest stream = refl
