-- The contents of the structs of C.
use Rattle.std.specs.Prelude.{ℕ}
use Rattle.rtp_wire.specs.Sample.{octets_per_sample}
use Rattle.rtp_stream.specs.CountsFacts.{Tally}
use Rattle.rtp_stream.specs.PathCounts.{PathTally}
use Rattle.rtp_stream.specs.declared.stream_spec.Stream.{Stream as StreamParts}
use Rattle.mix_packets.specs.OutSpec.{datagram_length}
use Rattle.mix_packets.specs.declared.out_spec.Output.{Output as OutputParts}
use Rattle.darbexum_c.specs.Codes.{clock_code}
use Rattle.darbexum_c.specs.declared.records.Counts.{Counts}
use Rattle.darbexum_c.specs.declared.records.PathCounts.{PathCounts}
use Rattle.darbexum_c.specs.declared.records.Output.{Output}
use Rattle.darbexum_c.specs.declared.records.Stream.{Stream}

abbrev pub tally_in : Counts → Tally
tally_in c = record { arrived = c.arrived; taken = c.taken; taken_by = c.taken_by; double = c.double; unlike = c.unlike; off_grid = c.off_grid; late = c.late; ahead = c.ahead; wrong_source = c.wrong_source; got = c.got; lost = c.lost; restarts = c.restarts }

abbrev pub path_tally_in : PathCounts → PathTally
path_tally_in c = record { offered = c.offered; sent = c.sent; bad = c.bad; wrong_type = c.wrong_type; wrong_length = c.wrong_length; full = c.full }

-- a struct of this size with the fixed values of an output
abbrev pub output_record : ℕ → OutputParts → Output
output_record size out = record { size = size; start = out.start; sample_octets = octets_per_sample out.enc; channels = out.channels; frames = out.frames; payload_type = out.pt; ssrc = out.ssrc; datagram_octets = datagram_length out }

-- a struct of this size with the fixed values of a stream
abbrev pub stream_record : ℕ → StreamParts → Stream
stream_record size stream = record { size = size; sample_octets = octets_per_sample stream.enc; channels = stream.channels; frames = stream.frames; payload_type = stream.pt; paths = stream.paths; latency = stream.latency; window = stream.window; clock = clock_code stream.clock }
