-- The outputs of a run by their kinds, with the texts of each kind, and their states.
use Rattle.std.specs.Prelude.{ℕ, List, ◌++◌, Bool, true, false, Option, Some, None, codes, slice_index_or, slice_set}
use Rattle.studio_io.specs.declared.output_kind.OutputKind.{OutputKind}
use Rattle.studio_io.specs.declared.output_kind.OutputKind.TheVariants as Kind
use Rattle.studio_io.specs.declared.output_state.OutputCounts.{OutputCounts}
use Rattle.studio_io.specs.declared.output_state.OutputEnd.{OutputEnd}
use Rattle.studio_io.specs.declared.output_state.OutputEnd.TheVariants as End
use Rattle.studio_io.specs.declared.output_state.OutputState.{OutputState}
use Rattle.studio_io.specs.declared.output_state.OutputState.TheVariants.{Absent, Waiting, Writing, Ended}
use Rattle.studio_io.specs.declared.output_states.OutputStates.{OutputStates}

-- the place of a kind among all kinds
abbrev pub output_index : OutputKind → ℕ
output_index Kind.Record = 0
output_index Kind.Wav = 1
output_index Kind.Pcm = 2

-- the name of an output in `/state`, in reports and in faults
abbrev pub output_key : OutputKind → List ℕ
output_key Kind.Record = codes "record"
output_key Kind.Wav = codes "wav"
output_key Kind.Pcm = codes "pcm"

-- the name of the things that an output is written in
abbrev pub output_unit : OutputKind → List ℕ
output_unit Kind.Record = codes "datagrams"
output_unit Kind.Wav = codes "blocks"
output_unit Kind.Pcm = codes "blocks"

-- the word before the number of units that were written, in the lines of `--stats`
abbrev pub written_word : OutputKind → List ℕ
written_word Kind.Record = codes "recorded"
written_word Kind.Wav = codes "wav_blocks"
written_word Kind.Pcm = codes "pcm_blocks"

-- the group of an output's metrics: the front of their names in `/metrics`, without the program's name
unfoldable pub metric_group : OutputKind → List ℕ
metric_group kind = output_key kind ++ codes "_"

-- the description of the metric of an output's state
abbrev pub state_help : OutputKind → List ℕ
state_help Kind.Record = codes "The state of the record: 1 for the state that it is in, and 0 for the others."
state_help Kind.Wav = codes "The state of the WAV file: 1 for the state that it is in, and 0 for the others."
state_help Kind.Pcm = codes "The state of the raw PCM: 1 for the state that it is in, and 0 for the others."

-- the description of the metric of the units that were written
abbrev pub written_help : OutputKind → List ℕ
written_help Kind.Record = codes "Datagrams that the record holds."
written_help Kind.Wav = codes "Blocks of the mix that the WAV file holds."
written_help Kind.Pcm = codes "Blocks of the mix that were written as raw PCM."

-- the description of the metric of the units that were left out, of an output that has a reader
abbrev pub left_out_help : OutputKind → List ℕ
left_out_help Kind.Record = codes ""
left_out_help Kind.Wav = codes ""
left_out_help Kind.Pcm = codes "Blocks of the mix that were left out of the raw PCM, because its reader was slow or there was none."

-- somebody has to read the output while it is written: before that, and while the reader is slow, units are left out
abbrev pub has_reader : OutputKind → Bool
has_reader Kind.Record = false
has_reader Kind.Wav = false
has_reader Kind.Pcm = true

-- the name of a state
abbrev pub state_name : OutputState → List ℕ
state_name Absent = codes "none"
state_name (Waiting counts) = codes "waiting"
state_name (Writing counts) = codes "writing"
state_name (Ended counts end) = codes "ended"

-- the counts, if there is the output
abbrev pub counts_in : OutputState → Option OutputCounts
counts_in Absent = None
counts_in (Waiting counts) = Some counts
counts_in (Writing counts) = Some counts
counts_in (Ended counts end) = Some counts

-- the reason why the output ended before its run, if it did
abbrev pub end_of : OutputState → Option OutputEnd
end_of Absent = None
end_of (Waiting counts) = None
end_of (Writing counts) = None
end_of (Ended counts end) = Some end

-- the number of units that were written, if there is the output
abbrev pub written_units : OutputState → Option ℕ
written_units Absent = None
written_units (Waiting counts) = Some counts.written
written_units (Writing counts) = Some counts.written
written_units (Ended counts end) = Some counts.written

-- the number of units that were left out, if there is the output
abbrev pub left_out_units : OutputState → Option ℕ
left_out_units Absent = None
left_out_units (Waiting counts) = Some counts.left_out
left_out_units (Writing counts) = Some counts.left_out
left_out_units (Ended counts end) = Some counts.left_out

-- the number of a reason for which an output ends before its run; 0 is that of none
abbrev pub end_number : OutputEnd → ℕ
end_number End.Write = 1
end_number End.Slow = 2
end_number End.Unfit = 3
end_number End.Closed = 4

-- the state of the output of a kind
abbrev pub state_of : OutputKind → OutputStates → OutputState
state_of kind states = slice_index_or states.by_kind (output_index kind) Absent

-- the same states, but for that of this kind
abbrev pub with_state : OutputKind → OutputState → OutputStates → OutputStates
with_state kind state states = record { by_kind = slice_set states.by_kind (output_index kind) state }
