-- A snapshot in the text form of Prometheus, 0.0.4.
use Rattle.std.specs.Prelude.{ℕ, ℤ, suc, Bool, true, false, List, [], ◌∷◌, ◌++◌, Option, Some, None, codes, slice_index, if◌then◌else◌, ◌==◌}
use Rattle.std.specs.Str.{bytes_eq}
use Rattle.std.specs.Fmt.{decimal, signed_decimal}
use Rattle.arrayvec.specs.ArrayString.{ArrayString}
use Rattle.status_page.specs.declared.snapshot.Condition.{Condition}
use Rattle.status_page.specs.declared.snapshot.Condition.TheVariants.{NoPacket, Running, SignalLost, Ended}
use Rattle.status_page.specs.PathConditions.{has_path_condition, path_condition_text}
use Rattle.status_page.specs.declared.path_condition.TheConstants.{PATH_CONDITIONS}
use Rattle.status_page.specs.declared.snapshot.PathCondition.{PathCondition}
use Rattle.status_page.specs.declared.snapshot.PathState.{PathState}
use Rattle.status_page.specs.declared.snapshot.StreamState.{StreamState}
use Rattle.status_page.specs.declared.snapshot.ChannelState.{ChannelState}
use Rattle.status_page.specs.declared.snapshot.Snapshot.{Snapshot}
use Rattle.studio_io.specs.declared.output_kind.OutputKind.{OutputKind}
use Rattle.studio_io.specs.declared.output_kind.TheConstants.{OUTPUT_KINDS}
use Rattle.studio_io.specs.declared.output_state.OutputState.{OutputState}
use Rattle.studio_io.specs.declared.output_states.OutputStates.{OutputStates}
use Rattle.studio_io.specs.Outputs.{has_reader, left_out_units, output_unit, state_name, state_of, written_units}
use Rattle.studio_io.specs.Outputs.{left_out_help, metric_group, state_help, written_help}
use Rattle.status_page.specs.declared.fields.Number.{Number}
use Rattle.status_page.specs.declared.fields.Number.TheVariants as Shown
use Rattle.status_page.specs.declared.fields.MetricKind.{MetricKind}
use Rattle.status_page.specs.declared.fields.MetricKind.TheVariants.{Counter, Gauge}
use Rattle.status_page.specs.declared.fields.path.PathField.{PathField}
use Rattle.status_page.specs.declared.fields.stream.StreamField.{StreamField}
use Rattle.status_page.specs.declared.fields.output.OutputField.{OutputField}
use Rattle.status_page.specs.declared.fields.path.TheConstants.{PATH_FIELDS}
use Rattle.status_page.specs.declared.fields.stream.StreamField.TheVariants.{Count, Latency, SecondsLeft, Redundancy}
use Rattle.rtp_stream.specs.declared.count_field.CountField.{CountField}
use Rattle.rtp_stream.specs.declared.count_field.TheConstants.{COUNT_FIELDS}
use Rattle.rtp_stream.specs.Path.{path_letter}
use Rattle.status_page.specs.declared.fields.output.TheConstants.{OUTPUT_FIELDS}
use Rattle.status_page.specs.declared.condition.TheConstants.{CONDITIONS}
use Rattle.status_page.specs.Fields.{flag, path_key, path_kind, path_help, path_value, stream_key, stream_kind, stream_help, stream_value, output_key, output_kind, output_help, output_value}

-- an octet in the value of a label: a backslash, a quotation mark and a line feed are escaped
abbrev pub label_octet : ℕ → List ℕ
label_octet octet = if octet == 92 then codes "\\\\" else (if octet == 34 then codes "\\\"" else (if octet == 10 then codes "\\n" else octet ∷ []))

-- the value of a label
unfoldable pub label_text : List ℕ → List ℕ
label_text [] = []
label_text (octet ∷ octets) = label_octet octet ++ label_text octets

-- the end of a metric's name: a counter's name ends in `_total`
abbrev pub suffix : MetricKind → List ℕ
suffix Counter = codes "_total"
suffix Gauge = codes ""

-- the name of a metric
unfoldable pub metric_text : List ℕ → List ℕ → MetricKind → List ℕ
metric_text group key kind = codes "darbexum_" ++ group ++ key ++ suffix kind

-- the end of the line with a metric's type
abbrev pub kind_text : MetricKind → List ℕ
kind_text Counter = codes " counter\n"
kind_text Gauge = codes " gauge\n"

-- the lines before a metric's samples
unfoldable pub header_text : List ℕ → List ℕ → MetricKind → List ℕ → List ℕ
header_text group key kind help =
    codes "# HELP " ++ metric_text group key kind ++ codes " " ++ help ++ codes "\n# TYPE " ++ metric_text group key kind ++ kind_text kind

-- the metric of a stream's number
abbrev pub stream_metric : StreamField → List ℕ
stream_metric field = metric_text (codes "stream_") (stream_key field) (stream_kind field)

-- the metric of a path's number
abbrev pub path_metric : PathField → List ℕ
path_metric field = metric_text (codes "path_") (path_key field) (path_kind field)

-- the metric of an output channel's number
abbrev pub output_metric : OutputField → List ℕ
output_metric field = metric_text (codes "output_") (output_key field) (output_kind field)

-- the metric of a stream's condition
abbrev pub state_metric : List ℕ
state_metric = metric_text (codes "stream_") (codes "state") Gauge

-- the lines before each metric's samples
abbrev pub stream_header : StreamField → List ℕ
stream_header field = header_text (codes "stream_") (stream_key field) (stream_kind field) (stream_help field)

abbrev pub path_header : PathField → List ℕ
path_header field = header_text (codes "path_") (path_key field) (path_kind field) (path_help field)

abbrev pub output_header : OutputField → List ℕ
output_header field = header_text (codes "output_") (output_key field) (output_kind field) (output_help field)

abbrev pub state_header : List ℕ
state_header = header_text (codes "stream_") (codes "state") Gauge (codes "Where the stream stands: 1 for the state that it is in, and 0 for the others.")

-- the metric of a path's condition, with the lines before its samples
abbrev pub path_state_metric : List ℕ
path_state_metric = metric_text (codes "path_") (codes "state") Gauge

abbrev pub path_state_header : List ℕ
path_state_header = header_text (codes "path_") (codes "state") Gauge (codes "Where the path stands: 1 for the state that it is in, and 0 for the others.")

-- the name of a condition
abbrev pub condition_text : Condition → List ℕ
condition_text NoPacket = codes "no_packet"
condition_text Running = codes "running"
condition_text SignalLost = codes "lost"
condition_text Ended = codes "ended"

-- the name of a stream as a label, if it has one
unfoldable pub name_label : Option ArrayString → List ℕ
name_label None = []
name_label (Some name) = codes ",name=\"" ++ label_text name.bytes ++ codes "\""

-- the labels of a stream, by its number from 0
unfoldable pub stream_labels : ℕ → StreamState → List ℕ
stream_labels number stream = codes "{stream=\"" ++ decimal number ++ codes "\"" ++ name_label stream.name

-- the end of a sample's line
unfoldable pub value_text : ℕ → List ℕ
value_text value = codes "} " ++ decimal value ++ codes "\n"

-- the end of a sample's line, for a number with a sign
unfoldable pub change_text : ℤ → List ℕ
change_text value = codes "} " ++ signed_decimal value ++ codes "\n"

-- the end of a sample's line, for a count or a change
abbrev pub shown_text : Number → List ℕ
shown_text (Shown.Count value) = value_text value
shown_text (Shown.Change value) = change_text value

-- the sample of a stream's number, if the number is known
unfoldable pub stream_sample : StreamField → ℕ → StreamState → Option ℕ → List ℕ
stream_sample field number stream None = []
stream_sample field number stream (Some value) = stream_metric field ++ stream_labels number stream ++ value_text value

-- the sample of a path's number, if the number is known
unfoldable pub path_sample : PathField → ℕ → StreamState → ℕ → Option Number → List ℕ
path_sample field number stream path None = []
path_sample field number stream path (Some value) =
    path_metric field ++ stream_labels number stream ++ codes ",path=\"" ++ path_letter path ++ codes "\"" ++ shown_text value

-- 1 if a stream has this condition, and 0 if not
abbrev pub has_condition : Condition → Condition → ℕ
has_condition NoPacket NoPacket = 1
has_condition Running Running = 1
has_condition SignalLost SignalLost = 1
has_condition Ended Ended = 1
has_condition _ _ = 0

-- the sample of one condition of a stream
unfoldable pub condition_sample : ℕ → StreamState → Condition → List ℕ
condition_sample number stream condition =
    state_metric ++ stream_labels number stream ++ codes ",state=\"" ++ condition_text condition ++ codes "\""
    ++ value_text (has_condition condition stream.condition)

-- the sample of one condition of a path that has this one
unfoldable pub path_condition_sample : ℕ → StreamState → ℕ → PathCondition → PathCondition → List ℕ
path_condition_sample number stream path present condition =
    path_state_metric ++ stream_labels number stream ++ codes ",path=\"" ++ path_letter path ++ codes "\",state=\"" ++ path_condition_text condition ++ codes "\""
    ++ value_text (has_path_condition condition present)

-- the samples of these conditions of a path that has this one
unfoldable pub known_condition_samples : ℕ → StreamState → ℕ → PathCondition → List PathCondition → List ℕ
known_condition_samples number stream path present [] = []
known_condition_samples number stream path present (condition ∷ conditions) =
    path_condition_sample number stream path present condition ++ known_condition_samples number stream path present conditions

-- the samples of all conditions of a path, if its condition is known
abbrev pub path_condition_samples : ℕ → StreamState → ℕ → Option PathCondition → List ℕ
path_condition_samples number stream path None = []
path_condition_samples number stream path (Some present) = known_condition_samples number stream path present PATH_CONDITIONS

-- the samples of all conditions of a stream's paths, numbered from this path on
unfoldable pub paths_condition_samples : ℕ → StreamState → ℕ → List PathState → List ℕ
paths_condition_samples number stream path [] = []
paths_condition_samples number stream path (state ∷ states) =
    path_condition_samples number stream path state.condition ++ paths_condition_samples number stream (suc path) states

-- the samples of all conditions of all paths, numbered from this stream on
unfoldable pub all_path_condition_samples : ℕ → List StreamState → List ℕ
all_path_condition_samples number [] = []
all_path_condition_samples number (stream ∷ streams) =
    paths_condition_samples number stream 0 stream.paths.items ++ all_path_condition_samples (suc number) streams

-- the sample of an output channel's number
unfoldable pub output_sample : OutputField → ℕ → ChannelState → List ℕ
output_sample field number output = output_metric field ++ codes "{output=\"" ++ decimal number ++ codes "\"" ++ value_text (output_value field output)

-- the samples of one number of the streams, numbered from this stream on
unfoldable pub stream_samples : StreamField → ℕ → List StreamState → List ℕ
stream_samples field number [] = []
stream_samples field number (stream ∷ streams) = stream_sample field number stream (stream_value field stream) ++ stream_samples field (suc number) streams

-- the samples of one number of a stream's paths, numbered from this path on
unfoldable pub path_samples : PathField → ℕ → StreamState → ℕ → List PathState → List ℕ
path_samples field number stream path [] = []
path_samples field number stream path (state ∷ states) =
    path_sample field number stream path (path_value field state) ++ path_samples field number stream (suc path) states

-- the samples of one number of all paths, numbered from this stream on
unfoldable pub all_path_samples : PathField → ℕ → List StreamState → List ℕ
all_path_samples field number [] = []
all_path_samples field number (stream ∷ streams) = path_samples field number stream 0 stream.paths.items ++ all_path_samples field (suc number) streams

-- the samples of these conditions of a stream
unfoldable pub condition_samples : ℕ → StreamState → List Condition → List ℕ
condition_samples number stream [] = []
condition_samples number stream (condition ∷ conditions) = condition_sample number stream condition ++ condition_samples number stream conditions

-- the samples of all conditions of the streams, numbered from this stream on
unfoldable pub all_condition_samples : List Condition → ℕ → List StreamState → List ℕ
all_condition_samples conditions number [] = []
all_condition_samples conditions number (stream ∷ streams) = condition_samples number stream conditions ++ all_condition_samples conditions (suc number) streams

-- the samples of one number of the output channels, numbered from this channel on
unfoldable pub output_samples : OutputField → ℕ → List ChannelState → List ℕ
output_samples field number [] = []
output_samples field number (output ∷ outputs) = output_sample field number output ++ output_samples field (suc number) outputs

-- the metric of one number of the streams
abbrev pub stream_family : StreamField → List StreamState → List ℕ
stream_family field streams = stream_header field ++ stream_samples field 0 streams

-- the metrics of the latency, of the time that is left, and of the redundancy
abbrev pub last_families : List StreamState → List ℕ
last_families streams = stream_family Latency streams ++ stream_family SecondsLeft streams ++ stream_family Redundancy streams

-- the metrics of the streams: these counts, the latency, the time that is left, and the redundancy
unfoldable pub stream_families : List CountField → List StreamState → List ℕ
stream_families [] streams = last_families streams
stream_families (count ∷ counts) streams = stream_family (Count count) streams ++ stream_families counts streams

-- the metrics of the paths
unfoldable pub path_families : List PathField → List StreamState → List ℕ
path_families [] streams = []
path_families (field ∷ fields) streams = path_header field ++ all_path_samples field 0 streams ++ path_families fields streams

-- the metrics of the output channels
unfoldable pub output_families : List OutputField → List ChannelState → List ℕ
output_families [] outputs = []
output_families (field ∷ fields) outputs = output_header field ++ output_samples field 0 outputs ++ output_families fields outputs

-- the lines before the metric of the datagrams that were not sent, which has a sample for each copy of the mix
abbrev pub failed_header : List ℕ
failed_header = header_text (codes "sends_") (codes "failed") Counter (codes "Datagrams of the mix that were not sent to the address of this copy.")

-- the sample of one copy of the mix
unfoldable pub failed_sample : List ℕ → ℕ → List ℕ
failed_sample letter failed =
    metric_text (codes "sends_") (codes "failed") Counter ++ codes "{copy=\"" ++ letter ++ codes "\"" ++ value_text failed

-- the samples of both copies of the mix
abbrev pub failed_samples : ℕ → ℕ → List ℕ
failed_samples failed_a failed_b = failed_sample (codes "a") failed_a ++ failed_sample (codes "b") failed_b

-- the metric of the datagrams that were not sent
unfoldable pub failed_text : ℕ → ℕ → List ℕ
failed_text failed_a failed_b = failed_header ++ failed_samples failed_a failed_b

-- the sample of the state with this name: 1 if it is this state, and 0 if not
unfoldable pub state_sample : List ℕ → List ℕ → List ℕ → List ℕ
state_sample group state name =
    metric_text group (codes "state") Gauge ++ codes "{state=\"" ++ name ++ codes "\"" ++ value_text (flag (bytes_eq state name))

-- the states of an output that has no reader, each with 1 for the one that it is in
unfoldable pub file_states : List ℕ → List ℕ → List ℕ
file_states group state = state_sample group state (codes "none") ++ state_sample group state (codes "writing") ++ state_sample group state (codes "ended")

-- the states of an output that has a reader
unfoldable pub reader_states : List ℕ → List ℕ → List ℕ
reader_states group state =
    state_sample group state (codes "none") ++ state_sample group state (codes "waiting")
    ++ state_sample group state (codes "writing") ++ state_sample group state (codes "ended")

-- the states of an output, which has a reader or not
abbrev pub output_state_samples : Bool → List ℕ → List ℕ → List ℕ
output_state_samples true group state = reader_states group state
output_state_samples false group state = file_states group state

-- the sample of a number without labels, if it is known
unfoldable pub single_sample : List ℕ → List ℕ → MetricKind → Option ℕ → List ℕ
single_sample group key kind None = []
single_sample group key kind (Some value) = metric_text group key kind ++ codes " " ++ decimal value ++ codes "\n"

-- the metric of a number without labels
abbrev pub single_family : List ℕ → List ℕ → MetricKind → List ℕ → Option ℕ → List ℕ
single_family group key kind help value = header_text group key kind help ++ single_sample group key kind value

-- the metric of an output's state
unfoldable pub output_state_family : OutputKind → List ℕ → List ℕ
output_state_family kind state =
    header_text (metric_group kind) (codes "state") Gauge (state_help kind)
    ++ output_state_samples (has_reader kind) (metric_group kind) state

-- the metric of the units that were written
unfoldable pub written_family : OutputKind → Option ℕ → List ℕ
written_family kind written = single_family (metric_group kind) (output_unit kind) Counter (written_help kind) written

-- the metric of the units that were left out
unfoldable pub left_out_family : OutputKind → Option ℕ → List ℕ
left_out_family kind left_out = single_family (metric_group kind) (codes "left_out") Counter (left_out_help kind) left_out

-- that metric, if the output has a reader
abbrev pub left_out_family_if : Bool → OutputKind → Option ℕ → List ℕ
left_out_family_if true kind left_out = left_out_family kind left_out
left_out_family_if false kind left_out = []

-- the metrics of both counts of an output
unfoldable pub output_counts : OutputKind → Option ℕ → Option ℕ → List ℕ
output_counts kind written left_out = written_family kind written ++ left_out_family_if (has_reader kind) kind left_out

-- the metrics of an output
unfoldable pub run_output_family : OutputKind → OutputState → List ℕ
run_output_family kind state = output_state_family kind (state_name state) ++ output_counts kind (written_units state) (left_out_units state)

-- the metrics of the outputs of these kinds
unfoldable pub run_output_families : List OutputKind → OutputStates → List ℕ
run_output_families [] states = []
run_output_families (kind ∷ kinds) states = run_output_family kind (state_of kind states) ++ run_output_families kinds states

-- the metric of the datagrams of the mix that were left out because they were stale
unfoldable pub stale_text : ℕ → List ℕ
stale_text stale = single_family (codes "sends_") (codes "stale") Counter (codes "Datagrams of the mix that were sent to neither address, because they were useless to every receiver.") (Some stale)

-- the metric of the datagrams of the mix in whose block a stream was missing
unfoldable pub incomplete_text : ℕ → List ℕ
incomplete_text incomplete = single_family (codes "incomplete_") (codes "datagrams") Counter (codes "Datagrams of the mix in whose block a stream was missing, sent or not.") (Some incomplete)

-- the metric of the datagrams of the mix that were sent later than a whole one
unfoldable pub sent_late_text : ℕ → List ℕ
sent_late_text sent_late = single_family (codes "late_") (codes "datagrams") Counter (codes "Datagrams of the mix that were sent later than a whole one, because a stream was missing.") (Some sent_late)

-- the metric of the datagrams of the mix that were left out because whole copies come from elsewhere
unfoldable pub left_out_text : ℕ → List ℕ
left_out_text left_out = single_family (codes "left_out_") (codes "datagrams") Counter (codes "Datagrams of the mix that were left out because whole copies come from elsewhere: no stream was there, or the run had ended.") (Some left_out)

-- these three metrics
abbrev pub incomplete_families : ℕ → ℕ → ℕ → List ℕ
incomplete_families incomplete sent_late left_out = incomplete_text incomplete ++ sent_late_text sent_late ++ left_out_text left_out

-- all metrics
unfoldable pub metrics_text : Snapshot → List ℕ
metrics_text snapshot =
    state_header ++ all_condition_samples CONDITIONS 0 snapshot.streams.items
    ++ path_state_header ++ all_path_condition_samples 0 snapshot.streams.items
    ++ stream_families COUNT_FIELDS snapshot.streams.items
    ++ path_families PATH_FIELDS snapshot.streams.items
    ++ output_families OUTPUT_FIELDS snapshot.outputs.items
    ++ failed_text (slice_index snapshot.failed_sends 0) (slice_index snapshot.failed_sends 1)
    ++ stale_text snapshot.stale
    ++ incomplete_families snapshot.incomplete snapshot.sent_late snapshot.left_out
    ++ run_output_families OUTPUT_KINDS snapshot.run_outputs
