-- The JSON of a snapshot, as its tokens.
use Rattle.std.specs.Prelude.{ℕ, Bool, true, false, List, [], ◌∷◌, ◌++◌, Option, Some, None, codes, slice_index}
use Rattle.std.specs.Fmt.{decimal, signed_decimal}
use Rattle.arrayvec.specs.ArrayString.{ArrayString}
use Rattle.json.specs.Token.{Token, begin_object, end_object, begin_array, end_array, key, string, number, null}
use Rattle.status_page.specs.declared.snapshot.PathCondition.{PathCondition}
use Rattle.status_page.specs.declared.snapshot.PathState.{PathState}
use Rattle.status_page.specs.declared.snapshot.StreamState.{StreamState}
use Rattle.status_page.specs.declared.snapshot.ChannelState.{ChannelState}
use Rattle.status_page.specs.declared.snapshot.Snapshot.{Snapshot}
use Rattle.studio_io.specs.declared.output_kind.OutputKind.{OutputKind}
use Rattle.studio_io.specs.declared.output_kind.TheConstants.{OUTPUT_KINDS}
use Rattle.studio_io.specs.declared.output_state.OutputState.{OutputState}
use Rattle.studio_io.specs.declared.output_states.OutputStates.{OutputStates}
use Rattle.studio_io.specs.Outputs.{has_reader, left_out_units, output_key as output_name, output_unit, state_name, state_of, written_units}
use Rattle.status_page.specs.declared.fields.Number.{Number}
use Rattle.status_page.specs.declared.fields.Number.TheVariants as Shown
use Rattle.status_page.specs.declared.fields.path.PathField.{PathField}
use Rattle.status_page.specs.declared.fields.stream.StreamField.{StreamField}
use Rattle.status_page.specs.declared.fields.output.OutputField.{OutputField}
use Rattle.status_page.specs.declared.fields.path.TheConstants.{PATH_FIELDS}
use Rattle.status_page.specs.declared.fields.stream.StreamField.TheVariants.{Count, Latency, SecondsLeft, Redundancy}
use Rattle.rtp_stream.specs.declared.count_field.CountField.{CountField}
use Rattle.rtp_stream.specs.declared.count_field.TheConstants.{COUNT_FIELDS}
use Rattle.status_page.specs.declared.fields.output.TheConstants.{OUTPUT_FIELDS}
use Rattle.status_page.specs.Fields.{path_key, path_value, stream_key, stream_value, output_key, output_value}
use Rattle.status_page.specs.Metrics.{condition_text}
use Rattle.status_page.specs.PathConditions.{path_condition_text}

-- the token of a number
abbrev pub number_token : ℕ → Token
number_token value = number (decimal value)

-- the token of a number, or null if it isn't known
abbrev pub known_token : Option ℕ → Token
known_token None = null
known_token (Some value) = number_token value

-- the token of a count, or of a change with its sign, or null if it isn't known
abbrev pub shown_token : Option Number → Token
shown_token None = null
shown_token (Some (Shown.Count value)) = number_token value
shown_token (Some (Shown.Change value)) = number (signed_decimal value)

-- the token of a name, or null if there is none
abbrev pub name_token : Option ArrayString → Token
name_token None = null
name_token (Some name) = string name.bytes

-- the numbers of a path, each with its key
unfoldable pub path_members : List PathField → PathState → List Token
path_members [] path = []
path_members (field ∷ fields) path = key (path_key field) ∷ shown_token (path_value field path) ∷ path_members fields path

-- a number of a stream, with its key
abbrev pub stream_member : StreamField → StreamState → List Token
stream_member field stream = key (stream_key field) ∷ known_token (stream_value field stream) ∷ []

-- the latency, the time that is left, and the redundancy
abbrev pub last_members : StreamState → List Token
last_members stream = stream_member Latency stream ++ stream_member SecondsLeft stream ++ stream_member Redundancy stream

-- the numbers of a stream: these counts, the latency, the time that is left, and the redundancy
unfoldable pub stream_members : List CountField → StreamState → List Token
stream_members [] stream = last_members stream
stream_members (count ∷ counts) stream = stream_member (Count count) stream ++ stream_members counts stream

-- the numbers of an output channel, each with its key
unfoldable pub output_members : List OutputField → ChannelState → List Token
output_members [] output = []
output_members (field ∷ fields) output = key (output_key field) ∷ number_token (output_value field output) ∷ output_members fields output

-- the name of a path's condition, or null if it isn't known
abbrev pub condition_token : Option PathCondition → Token
condition_token None = null
condition_token (Some condition) = string (path_condition_text condition)

-- a path: its condition and its numbers
abbrev pub path_tokens : PathState → List Token
path_tokens path = begin_object ∷ key (codes "state") ∷ condition_token path.condition ∷ (path_members PATH_FIELDS path ++ end_object ∷ [])

-- the paths of a stream
unfoldable pub paths_tokens : List PathState → List Token
paths_tokens [] = []
paths_tokens (path ∷ paths) = path_tokens path ++ paths_tokens paths

-- the name and the condition of a stream
abbrev pub front_tokens : StreamState → List Token
front_tokens stream =
    begin_object ∷ key (codes "name") ∷ name_token stream.name ∷ key (codes "state") ∷ string (condition_text stream.condition) ∷ []

-- an array with its key
abbrev pub array_tokens : List ℕ → List Token → List Token
array_tokens name items = key name ∷ begin_array ∷ (items ++ end_array ∷ [])

-- a stream
abbrev pub stream_tokens : StreamState → List Token
stream_tokens stream =
    front_tokens stream ++ stream_members COUNT_FIELDS stream
    ++ array_tokens (codes "paths") (paths_tokens stream.paths.items) ++ end_object ∷ []

-- the streams
unfoldable pub streams_tokens : List StreamState → List Token
streams_tokens [] = []
streams_tokens (stream ∷ streams) = stream_tokens stream ++ streams_tokens streams

-- an output channel
abbrev pub output_tokens : ChannelState → List Token
output_tokens output = begin_object ∷ (output_members OUTPUT_FIELDS output ++ end_object ∷ [])

-- the output channels
unfoldable pub outputs_tokens : List ChannelState → List Token
outputs_tokens [] = []
outputs_tokens (output ∷ outputs) = output_tokens output ++ outputs_tokens outputs

-- the number of datagrams of each copy of the mix that were not sent
abbrev pub failed_tokens : List ℕ → List Token
failed_tokens failed =
    array_tokens (codes "failed_sends") (number_token (slice_index failed 0) ∷ number_token (slice_index failed 1) ∷ [])

-- the number of datagrams of the mix that were left out because they were stale
abbrev pub stale_tokens : ℕ → List Token
stale_tokens stale = key (codes "stale") ∷ number_token stale ∷ []

-- the numbers of datagrams of the mix in whose block a stream was missing, of those that were sent later than a whole one,
-- and of those that were left out because whole copies come from elsewhere
abbrev pub incomplete_tokens : ℕ → ℕ → ℕ → List Token
incomplete_tokens incomplete sent_late left_out =
    key (codes "incomplete") ∷ number_token incomplete ∷ key (codes "sent_late") ∷ number_token sent_late
    ∷ key (codes "left_out") ∷ number_token left_out ∷ []

-- a state, by its name
abbrev pub state_member : List ℕ → List Token
state_member name = key (codes "state") ∷ string name ∷ []

-- a count with its key
abbrev pub count_member : List ℕ → Option ℕ → List Token
count_member name count = key name ∷ known_token count ∷ []

-- an object with its key
abbrev pub object_tokens : List ℕ → List Token → List Token
object_tokens name members = key name ∷ begin_object ∷ (members ++ end_object ∷ [])

-- the number of units that were left out, if the output has a reader
abbrev pub left_out_members : Bool → Option ℕ → List Token
left_out_members true left_out = count_member (codes "left_out") left_out
left_out_members false left_out = []

-- the numbers of units of an output that were written, and that were left out; then with the state
unfoldable pub output_count_members : OutputKind → Option ℕ → Option ℕ → List Token
output_count_members kind written left_out = count_member (output_unit kind) written ++ left_out_members (has_reader kind) left_out

unfoldable pub run_output_members : OutputKind → OutputState → List Token
run_output_members kind state = state_member (state_name state) ++ output_count_members kind (written_units state) (left_out_units state)

-- an output of the run
abbrev pub run_output_tokens : OutputKind → OutputState → List Token
run_output_tokens kind state = object_tokens (output_name kind) (run_output_members kind state)

-- the outputs of these kinds
unfoldable pub run_outputs_tokens : List OutputKind → OutputStates → List Token
run_outputs_tokens [] states = []
run_outputs_tokens (kind ∷ kinds) states = run_output_tokens kind (state_of kind states) ++ run_outputs_tokens kinds states

-- a snapshot
unfoldable pub state_tokens : Snapshot → List Token
state_tokens snapshot =
    begin_object ∷ (array_tokens (codes "streams") (streams_tokens snapshot.streams.items)
    ++ array_tokens (codes "outputs") (outputs_tokens snapshot.outputs.items)
    ++ failed_tokens snapshot.failed_sends ++ stale_tokens snapshot.stale
    ++ incomplete_tokens snapshot.incomplete snapshot.sent_late snapshot.left_out
    ++ run_outputs_tokens OUTPUT_KINDS snapshot.run_outputs ++ end_object ∷ [])
