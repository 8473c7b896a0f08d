-- The lines of a live run: those of its report that a played one does not have, and those on standard error.
use Rattle.std.specs.Prelude.{ℕ, ℤ, Bool, true, false, ◌++◌, ◌∷◌, [], List, Option, Some, None, codes}
use Rattle.std.specs.Fmt.{decimal, signed_decimal}
use Rattle.rtp_stream.specs.CountsFacts.{Tally}
use Rattle.rtp_stream.specs.Path.{path_letter}
use Rattle.studio_run.specs.Report.{count_text, tally_text}
use Rattle.status_page.specs.declared.snapshot.SocketState.{SocketState}
use Rattle.live_status.specs.declared.lines.running.MixCounts.{MixCounts}
use Rattle.studio_io.specs.declared.output_kind.OutputKind.{OutputKind}
use Rattle.studio_io.specs.declared.output_kind.TheConstants.{OUTPUT_KINDS}
use Rattle.studio_io.specs.declared.output_state.OutputState.{OutputState}
use Rattle.studio_io.specs.declared.output_states.OutputStates.{OutputStates}
use Rattle.studio_io.specs.Outputs.{has_reader, left_out_units, output_key, state_name, state_of, written_units, written_word}
use Rattle.live_status.specs.declared.lines.report.SinkCounts.{SinkCounts}

-- the line of a path's feed: the number of its faults
abbrev pub feed_line : ℕ → ℕ → ℕ → List ℕ
feed_line stream path faults = codes "feed " ++ decimal stream ++ codes " " ++ path_letter path ++ count_text (codes "faults") faults ++ 10 ∷ []

-- the line of a sink
abbrev pub sink_line : SinkCounts → List ℕ
sink_line counts =
    codes "sink" ++ count_text (codes "blocks") counts.blocks
    ++ count_text (codes "sent_a") counts.sent_a
    ++ count_text (codes "sent_b") counts.sent_b
    ++ count_text (codes "fault_a") counts.fault_a
    ++ count_text (codes "fault_b") counts.fault_b
    ++ 10 ∷ []

-- the line of a stream with this many paths, at this clock reading: each number after its word and a sign
abbrev pub running_line : ℕ → ℕ → ℤ → Tally → List ℕ
running_line stream paths time counts =
    codes "stream=" ++ decimal stream ++ codes " time=" ++ signed_decimal time ++ tally_text (codes "=") paths counts ++ 10 ∷ []

-- 1 if something holds, and 0 if not
abbrev pub flag_text : Bool → List ℕ
flag_text true = codes "1"
flag_text false = codes "0"

-- a number, or a dash if it is not known
abbrev pub known_text : Option ℕ → List ℕ
known_text None = codes "-"
known_text (Some number) = decimal number

-- the line of the socket of a path, at this clock reading, in four parts: its place, its faults, its losses, and what was left out
abbrev pub socket_place : ℕ → ℕ → ℤ → List ℕ
socket_place stream path time = codes "socket=" ++ decimal stream ++ path_letter path ++ codes " time=" ++ signed_decimal time

abbrev pub socket_faults : SocketState → List ℕ
socket_faults socket = codes " faults=" ++ decimal socket.faults ++ codes " ended=" ++ flag_text socket.has_ended

abbrev pub socket_losses : SocketState → List ℕ
socket_losses socket = codes " dropped=" ++ known_text socket.dropped ++ codes " unexpected=" ++ known_text socket.unexpected

abbrev pub socket_left_out : SocketState → List ℕ
socket_left_out socket = codes " too_long=" ++ decimal socket.too_long ++ codes " held_up=" ++ decimal socket.held_up ++ codes "\n"

abbrev pub socket_line : ℕ → ℕ → ℤ → SocketState → List ℕ
socket_line stream path time socket = socket_place stream path time ++ socket_faults socket ++ socket_losses socket ++ socket_left_out socket

-- the line of a run, at this clock reading: the failed sends of each copy of the mix, those that were stale, the datagrams
-- in which a stream was missing, those that were sent late and those that were left out, and then its outputs
unfoldable pub run_time : ℤ → List ℕ
run_time time = codes "run time=" ++ signed_decimal time

unfoldable pub run_failed : ℕ → ℕ → List ℕ
run_failed failed_a failed_b = codes " failed_a=" ++ decimal failed_a ++ codes " failed_b=" ++ decimal failed_b

unfoldable pub run_stale : ℕ → List ℕ
run_stale stale = codes " stale=" ++ decimal stale

unfoldable pub run_incomplete : ℕ → List ℕ
run_incomplete incomplete = codes " incomplete=" ++ decimal incomplete

unfoldable pub run_sent_late : ℕ → List ℕ
run_sent_late sent_late = codes " sent_late=" ++ decimal sent_late

unfoldable pub run_left_out : ℕ → List ℕ
run_left_out left_out = codes " left_out=" ++ decimal left_out

unfoldable pub run_missing : ℕ → ℕ → ℕ → List ℕ
run_missing incomplete sent_late left_out = run_incomplete incomplete ++ run_sent_late sent_late ++ run_left_out left_out

abbrev pub run_sends : ℤ → MixCounts → List ℕ
run_sends time counts =
    run_time time ++ run_failed counts.failed_a counts.failed_b ++ run_stale counts.stale
    ++ run_missing counts.incomplete counts.sent_late counts.left_out

-- the name of an output's state, behind the output's name
unfoldable pub output_state : OutputKind → List ℕ → List ℕ
output_state kind state = codes " " ++ output_key kind ++ codes "=" ++ state

-- the number of units of an output that were written
unfoldable pub output_written : OutputKind → Option ℕ → List ℕ
output_written kind written = codes " " ++ written_word kind ++ codes "=" ++ known_text written

-- the number of units of an output that were left out
unfoldable pub output_left_out : OutputKind → Option ℕ → List ℕ
output_left_out kind left_out = codes " " ++ output_key kind ++ codes "_left_out=" ++ known_text left_out

-- that number, if the output has a reader
abbrev pub output_left_out_if : Bool → OutputKind → Option ℕ → List ℕ
output_left_out_if true kind left_out = output_left_out kind left_out
output_left_out_if false kind left_out = []

-- both numbers of an output
unfoldable pub run_output_counts : OutputKind → Option ℕ → Option ℕ → List ℕ
run_output_counts kind written left_out = output_written kind written ++ output_left_out_if (has_reader kind) kind left_out

-- an output
unfoldable pub run_output : OutputKind → OutputState → List ℕ
run_output kind state = output_state kind (state_name state) ++ run_output_counts kind (written_units state) (left_out_units state)

-- the outputs of these kinds
unfoldable pub run_outputs : List OutputKind → OutputStates → List ℕ
run_outputs [] states = []
run_outputs (kind ∷ kinds) states = run_output kind (state_of kind states) ++ run_outputs kinds states

abbrev pub run_line : ℤ → MixCounts → OutputStates → List ℕ
run_line time counts states = run_sends time counts ++ run_outputs OUTPUT_KINDS states ++ codes "\n"
