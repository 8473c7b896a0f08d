-- The numbers of a snapshot, by the fields that name them.
use Rattle.std.specs.Prelude.{ℕ, List, Bool, true, false, Option, Some, None, codes, max, option_map, option_and_then}
use Rattle.rtp_stream.specs.CountField.{count_help, count_key, count_value}
use Rattle.rtp_stream.specs.Counts.{tally_of}
use Rattle.status_page.specs.PathConditions.{redundancy}
use Rattle.status_page.specs.declared.snapshot.PathState.{PathState}
use Rattle.status_page.specs.declared.snapshot.StreamState.{StreamState}
use Rattle.status_page.specs.declared.snapshot.ChannelState.{ChannelState}
use Rattle.status_page.specs.declared.fields.path.PathField.{PathField}
use Rattle.status_page.specs.declared.fields.path.PathField.TheVariants as Path
use Rattle.status_page.specs.declared.fields.stream.StreamField.{StreamField}
use Rattle.status_page.specs.declared.fields.stream.StreamField.TheVariants as Stream
use Rattle.status_page.specs.declared.fields.output.OutputField.{OutputField}
use Rattle.status_page.specs.declared.fields.output.OutputField.TheVariants as Output
use Rattle.status_page.specs.declared.fields.Number.{Number}
use Rattle.status_page.specs.declared.fields.Number.TheVariants as Shown
use Rattle.status_page.specs.declared.fields.MetricKind.{MetricKind}
use Rattle.status_page.specs.declared.fields.MetricKind.TheVariants.{Counter, Gauge}

-- the name of a path's number
abbrev pub path_key : PathField → List ℕ
path_key Path.Datagrams = codes "datagrams"
path_key Path.First = codes "first"
path_key Path.Sent = codes "packets"
path_key Path.Lost = codes "lost"
path_key Path.Double = codes "double"
path_key Path.Unlike = codes "unlike"
path_key Path.Late = codes "late"
path_key Path.Ahead = codes "ahead"
path_key Path.Repeated = codes "repeated"
path_key Path.Bad = codes "bad"
path_key Path.WrongType = codes "wrong_type"
path_key Path.WrongLength = codes "wrong_length"
path_key Path.Full = codes "full"
path_key Path.SpareLeast = codes "spare_least"
path_key Path.SpareMedian = codes "spare_median"
path_key Path.SpareGreatest = codes "spare_greatest"
path_key Path.Drift = codes "drift_ppm"
path_key Path.Astray = codes "astray"
path_key Path.Repeating = codes "repeating"
path_key Path.Unexpected = codes "unexpected"
path_key Path.SocketFaults = codes "socket_faults"
path_key Path.SocketEnded = codes "socket_ended"
path_key Path.SocketDropped = codes "socket_dropped"
path_key Path.TooLong = codes "too_long"
path_key Path.HeldUp = codes "held_up"

-- the kind of a path's number: a counter only rises
abbrev pub path_kind : PathField → MetricKind
path_kind Path.Datagrams = Counter
path_kind Path.First = Counter
path_kind Path.Sent = Counter
path_kind Path.Lost = Counter
path_kind Path.Double = Counter
path_kind Path.Unlike = Counter
path_kind Path.Late = Counter
path_kind Path.Ahead = Counter
path_kind Path.Repeated = Gauge
path_kind Path.Bad = Counter
path_kind Path.WrongType = Counter
path_kind Path.WrongLength = Counter
path_kind Path.Full = Counter
path_kind Path.SpareLeast = Gauge
path_kind Path.SpareMedian = Gauge
path_kind Path.SpareGreatest = Gauge
path_kind Path.Drift = Gauge
path_kind Path.Astray = Gauge
path_kind Path.Repeating = Gauge
path_kind Path.Unexpected = Counter
path_kind Path.SocketFaults = Counter
path_kind Path.SocketEnded = Gauge
path_kind Path.SocketDropped = Counter
path_kind Path.TooLong = Counter
path_kind Path.HeldUp = Counter

-- the description of a path's number
abbrev pub path_help : PathField → List ℕ
path_help Path.Datagrams = codes "Datagrams that came on the path."
path_help Path.First = codes "Packets of which the path brought the first copy."
path_help Path.Sent = codes "Packets of the stream that found room on their way to the merge; an offer that found none counts as full."
path_help Path.Lost = codes "Packets that the stream lost, also if the path brought them late, and packets that another path brought and this one did not within the reorder window."
path_help Path.Double = codes "Further copies, with the payload of the first."
path_help Path.Unlike = codes "Further copies, with another payload than the first."
path_help Path.Late = codes "Packets that came after their deadline."
path_help Path.Ahead = codes "Packets that came too early for the window."
path_help Path.Repeated = codes "Packets in a row, up to the last one, that came late and repeat numbers which were heard."
path_help Path.Bad = codes "Datagrams that were no RTP packets."
path_help Path.WrongType = codes "Datagrams of another payload type."
path_help Path.WrongLength = codes "Datagrams of another length."
path_help Path.Full = codes "Packets that found no room on their way to the merge."
path_help Path.SpareLeast = codes "The least time before its deadline that a packet of the last second came, in periods of 48 kHz."
path_help Path.SpareMedian = codes "The median time before their deadlines that packets of the last second came, in periods of 48 kHz; past 6138 it may be more."
path_help Path.SpareGreatest = codes "The greatest time before its deadline that a packet of the last second came, in periods of 48 kHz."
path_help Path.Drift = codes "The drift of the least arrival margin over the last minute, in parts per million; above 0 if packets come earlier and earlier."
path_help Path.Astray = codes "1 if every packet of the last two seconds was late or too early, and 0 otherwise."
path_help Path.Repeating = codes "1 if the last 64 packets repeat numbers that were heard, while no path of the stream is in time, and 0 otherwise."
path_help Path.Unexpected = codes "Datagrams from other addresses than the path's source."
path_help Path.SocketFaults = codes "Receives that failed at the path's socket."
path_help Path.SocketEnded = codes "1 once the path was given up because its socket failed again and again, and 0 before."
path_help Path.SocketDropped = codes "Datagrams that the system dropped because the buffer of the path's socket was full."
path_help Path.TooLong = codes "Datagrams that were left out because they were longer than 2048 octets."
path_help Path.HeldUp = codes "Datagrams that were left out after a hold-up, until the mix had caught up."

-- the name of a stream's number
abbrev pub stream_key : StreamField → List ℕ
stream_key (Stream.Count count) = count_key count
stream_key Stream.Latency = codes "latency"
stream_key Stream.SecondsLeft = codes "seconds_left"
stream_key Stream.Redundancy = codes "redundancy"

-- the kind of a stream's number: a counter only rises
abbrev pub stream_kind : StreamField → MetricKind
stream_kind (Stream.Count count) = Counter
stream_kind Stream.Latency = Gauge
stream_kind Stream.SecondsLeft = Gauge
stream_kind Stream.Redundancy = Gauge

-- the description of a stream's number
abbrev pub stream_help : StreamField → List ℕ
stream_help (Stream.Count count) = count_help count
stream_help Stream.Latency = codes "From a packet's media time to its deadline, in periods of 48 kHz."
stream_help Stream.SecondsLeft = codes "Seconds until packets will be late or too early, at the drift of the path with the most time left; 31536000 (a year) is the most."
stream_help Stream.Redundancy = codes "Paths by each of which alone the audio would go on, with gaps if the path is losing."

-- the name of an output channel's number
abbrev pub output_key : OutputField → List ℕ
output_key Output.Peak = codes "peak"
output_key Output.Saturated = codes "saturated"

-- the kind of an output channel's number: a counter only rises
abbrev pub output_kind : OutputField → MetricKind
output_kind Output.Peak = Gauge
output_kind Output.Saturated = Counter

-- the description of an output channel's number
abbrev pub output_help : OutputField → List ℕ
output_help Output.Peak = codes "The greatest magnitude of a sample of the last tenth of a second, of 8388608 at full scale."
output_help Output.Saturated = codes "Samples that were saturated: their rounded sum lay past what the output can hold."

-- 1 if something holds, and 0 otherwise
abbrev pub flag : Bool → ℕ
flag true = 1
flag false = 0

-- 1 or 0, for a path whose copies are counted
abbrev pub known_flag : PathState → Bool → Option ℕ
known_flag path holds = option_map (λ copies. flag holds) path.copies

-- a count of a path, if it is known; the median margin, which is rounded down, is no less than the least
abbrev pub path_count : PathField → PathState → Option ℕ
path_count Path.Datagrams path = Some path.datagrams
path_count Path.First path = Some path.first
path_count Path.Sent path = option_map (λ counts. counts.sent) path.counts
path_count Path.Lost path = option_map (λ copies. copies.lost) path.copies
path_count Path.Double path = option_map (λ copies. copies.double) path.copies
path_count Path.Unlike path = option_map (λ copies. copies.unlike) path.copies
path_count Path.Late path = option_map (λ copies. copies.late) path.copies
path_count Path.Ahead path = option_map (λ copies. copies.ahead) path.copies
path_count Path.Repeated path = option_map (λ copies. copies.repeated) path.copies
path_count Path.Bad path = option_map (λ counts. counts.bad) path.counts
path_count Path.WrongType path = option_map (λ counts. counts.wrong_type) path.counts
path_count Path.WrongLength path = option_map (λ counts. counts.wrong_length) path.counts
path_count Path.Full path = option_map (λ counts. counts.full) path.counts
path_count Path.SpareLeast path = option_map (λ spare. spare.least) path.spare
path_count Path.SpareMedian path = option_map (λ spare. max spare.median spare.least) path.spare
path_count Path.SpareGreatest path = option_map (λ spare. spare.greatest) path.spare
path_count Path.Drift path = None
path_count Path.Astray path = known_flag path path.is_astray
path_count Path.Repeating path = known_flag path path.is_repeating
path_count Path.Unexpected path = option_and_then (λ socket. socket.unexpected) path.socket
path_count Path.SocketFaults path = option_map (λ socket. socket.faults) path.socket
path_count Path.SocketEnded path = option_map (λ socket. flag socket.has_ended) path.socket
path_count Path.SocketDropped path = option_and_then (λ socket. socket.dropped) path.socket
path_count Path.TooLong path = option_map (λ socket. socket.too_long) path.socket
path_count Path.HeldUp path = option_map (λ socket. socket.held_up) path.socket

-- a count as a number
abbrev pub counted : Option ℕ → Option Number
counted count = option_map (λ n. Shown.Count n) count

-- a number of a path, if it is known: its drift has a sign, and all others are counts
abbrev pub path_value : PathField → PathState → Option Number
path_value Path.Drift path = option_map (λ ppm. Shown.Change ppm) path.drift
path_value field path = counted (path_count field path)

-- a number of a stream, if it is known
abbrev pub stream_value : StreamField → StreamState → Option ℕ
stream_value (Stream.Count count) stream = Some (count_value count (tally_of stream.counts))
stream_value Stream.Latency stream = Some stream.latency
stream_value Stream.SecondsLeft stream = stream.seconds_left
stream_value Stream.Redundancy stream = Some (redundancy stream.paths.items)

-- a number of an output channel
abbrev pub output_value : OutputField → ChannelState → ℕ
output_value Output.Peak output = output.peak
output_value Output.Saturated output = output.saturated
