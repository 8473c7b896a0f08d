-- When `check` warns of a window, and when it gives advice on a window and on a path.
use Rattle.std.specs.Prelude.{ℕ, ◌*◌, ◌-◌, Bool, true, false, ◌&&◌, nat_lt, is_none}
use Rattle.rtp_stream.specs.Follow.{is_following}
use Rattle.rtp_stream.specs.declared.stream_spec.Stream.{Stream}
use Rattle.rtp_stream.specs.declared.stream_spec.StreamClock.{StreamClock}
use Rattle.rtp_stream.specs.declared.stream_spec.StreamClock.TheVariants as clock
use Rattle.studio_config.specs.Networks.{path_address}
use Rattle.studio_config.specs.declared.networks.Networks.{Networks}

-- the clock follows its sender, and the window spans less than twice the latency
abbrev pub is_window_short : Stream → Bool
is_window_short stream = is_following stream.clock && nat_lt (stream.window * stream.frames) (2 * stream.latency)

-- how early a packet may come, in sampling instants: what the window spans beyond the latency
abbrev pub earliness_of : Stream → ℕ
earliness_of stream = stream.window * stream.frames - stream.latency

-- media times follow from when the first packet arrived
abbrev pub is_by_first : StreamClock → Bool
is_by_first (clock.Media offset) = false
is_by_first clock.Arrival = true
is_by_first clock.Follow = true

-- media times follow from when the first packet arrived, and a later packet may come less than 70 ms earlier than that one
abbrev pub is_close_to_first : Stream → Bool
is_close_to_first stream = is_by_first stream.clock && nat_lt (earliness_of stream) 3360

-- packets of any sender are taken: neither the source (SSRC) of the stream is set, nor the source address of this path of the stream of a number
abbrev pub takes_any_sender : Stream → Networks → ℕ → ℕ → Bool
takes_any_sender stream networks number path = is_none stream.ssrc && is_none (path_address networks.sources number path)
