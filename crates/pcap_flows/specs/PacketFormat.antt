-- The channels of a packet of linear PCM, by its length and timestamp step (RFC 3551, 4.5.11; RFC 3190, 4).
use Rattle.std.specs.Prelude.{ℕ, ◌*◌, ◌/◌, ◌%◌, Bool, false, Option, Some, None, is_none, nat_le, ◌==◌, ◌&&◌, ◌||◌, not, if◌then◌else◌}
use Rattle.rtp_wire.specs.declared.encoding.Enc.{Enc}
use Rattle.rtp_wire.specs.declared.encoding.Enc.TheVariants as enc
use Rattle.rtp_stream.specs.declared.stream_spec.Stream.{Stream}
use Rattle.rtp_stream.specs.declared.stream_spec.StreamClock.TheVariants.{Media}
use Rattle.rtp_stream.specs.StreamSpecFacts.{spec_fault_of}
use Rattle.pcap_flows.specs.declared.packet_format.Fit.{Fit}
use Rattle.pcap_flows.specs.Flow.{FlowView}

-- the channels that fill a payload of `len` octets with `frames` sampling instants, if a sample has this many octets
unfoldable pub fit_of : ℕ → ℕ → ℕ → Option Fit
fit_of len frames octets =
    if (frames * octets == 0) || (len == 0) || not (len % (frames * octets) == 0)
    then None
    else Some (record { channels = len / (frames * octets); frames = frames })

-- a stream with these channels and sampling instants, and the least latency, window and number of paths
abbrev pub stream_with : Enc → Fit → ℕ → Stream
stream_with enc fit pt = record { enc = enc; channels = fit.channels; frames = fit.frames; pt = pt; ssrc = None; clock = Media 0; latency = 1; window = 8; paths = 1 }

abbrev pub is_format_of : ℕ → Enc → Option Fit → Bool
is_format_of pt enc None = false
is_format_of pt enc (Some fit) = nat_le fit.channels 255 && nat_le fit.frames 65_535 && is_none (spec_fault_of (stream_with enc fit pt))

-- packets of this length and step fit a stream with this encoding
unfoldable pub is_format : ℕ → Enc → ℕ → ℕ → ℕ → Bool
is_format pt enc octets len step = is_format_of pt enc (fit_of len step octets)

abbrev pub format_by : ℕ → FlowView → Option ℕ → Bool
format_by pt flow None = false
format_by pt flow (Some step) =
    not flow.steps.varies && (flow.lengths.least == flow.lengths.greatest)
    && (is_format pt enc.L24 3 flow.lengths.least step || is_format pt enc.L16 2 flow.lengths.least step)

-- all packets of a flow have one length and one step, which fit a stream of linear PCM
unfoldable pub has_format : ℕ → FlowView → Bool
has_format pt flow = format_by pt flow flow.steps.first
