-- the capacity that a lane needs for marks that come before the next block needs them.
use Rattle.std.specs.Prelude.{ℕ, ◌+◌, ◌*◌, ◌-◌, max, List, [], ◌∷◌, map}
use Rattle.rtp_stream.specs.declared.stream_spec.Stream.{Stream}
use Rattle.lane_align.specs.Lane.{LaneState}
use Rattle.studio_config.specs.Studio.{Studio}

-- how far the marks of a stream may be behind the time: its latency plus a window of packets
abbrev pub lag_of : Stream → ℕ
lag_of stream = stream.latency + stream.window * stream.frames

-- the greatest of the streams' lags
abbrev pub greatest_lag : List Stream → ℕ
greatest_lag [] = 0
greatest_lag (stream ∷ streams) = max (lag_of stream) (greatest_lag streams)

-- the frames by which a stream's marks may be ahead of those of a stream with this lag, plus a packet and a block
abbrev pub capacity_for : ℕ → ℕ → Stream → ℕ
capacity_for lag block stream = lag - stream.latency + stream.frames + block

-- the capacity that a stream's lane needs in a studio
abbrev pub capacity_of : Studio → Stream → ℕ
capacity_of studio stream = capacity_for (greatest_lag studio.streams) studio.output.frames stream

-- the capacity of each lane
abbrev pub capacities_of : List LaneState → List ℕ
capacities_of lanes = map (λ (lane : LaneState). lane.capacity) lanes
