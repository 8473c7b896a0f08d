-- The samples of a stream's marks, in the form of a WAV file: from the first slot on, each at its media time.
use Rattle.std.specs.Prelude.{ℕ, List, [], ◌∷◌, ◌++◌, ℤ, pos, ◌+ℤ◌, Option, Some, None}
use Rattle.rtp_stream.specs.declared.stream_spec.Stream.{Stream}
use Rattle.rtp_stream.specs.MarkFacts.{MarkView}
use Rattle.rtp_stream.specs.declared.mark.Body.{Body}
use Rattle.rtp_stream.specs.declared.mark.Body.TheVariants.{Got, Lost}
use Rattle.rtp_stream.specs.declared.mark.MarkKind.{MarkKind}
use Rattle.rtp_stream.specs.declared.mark.MarkKind.TheVariants.{Slot, Quiet, End}
use Rattle.lane_align.specs.Lane.{frames_between}
use Rattle.wav_file.specs.declared.header.WavFormat.{WavFormat}
use Rattle.wav_file.specs.File.{silent_octets}
use Rattle.wav_file.specs.Samples.{little_samples}

-- the format of a stream's file
abbrev pub stream_format : Stream → WavFormat
stream_format stream = record { enc = stream.enc; channels = stream.channels }

-- silence from the end of the last slot to a time; none before the first slot
abbrev pub gap_samples : WavFormat → Option ℤ → ℤ → List ℕ
gap_samples format None media = []
gap_samples format (Some end) media = silent_octets format (frames_between end media)

-- the samples of a packet's payload, or silence of its length
abbrev pub body_samples : WavFormat → ℕ → Body → List ℕ
body_samples format frames (Got payload) = little_samples format.enc payload.items
body_samples format frames Lost = silent_octets format frames

-- the samples of a mark, behind those of the last slot: a slot has the gap before it and its own samples, other marks
-- have none
abbrev pub mark_samples : WavFormat → ℕ → Option ℤ → MarkKind → List ℕ
mark_samples format frames end (Slot epoch number media body) = gap_samples format end media ++ body_samples format frames body
mark_samples format frames end (Quiet until) = []
mark_samples format frames end End = []

-- the end of the last slot, after this mark
abbrev pub end_after : ℕ → Option ℤ → MarkKind → Option ℤ
end_after frames end (Slot epoch number media body) = Some (media +ℤ pos frames)
end_after frames end (Quiet until) = end
end_after frames end End = end

-- the end of the last slot, after these marks
abbrev pub end_of : ℕ → Option ℤ → List MarkView → Option ℤ
end_of frames end [] = end
end_of frames end (mark ∷ marks) = end_of frames (end_after frames end mark.kind) marks

-- the samples of marks, behind those of the last slot
abbrev pub samples_behind : WavFormat → ℕ → Option ℤ → List MarkView → List ℕ
samples_behind format frames end [] = []
samples_behind format frames end (mark ∷ marks) = mark_samples format frames end mark.kind ++ samples_behind format frames (end_after frames end mark.kind) marks

-- the samples of a stream's marks
abbrev pub stream_samples : Stream → List MarkView → List ℕ
stream_samples stream marks = samples_behind (stream_format stream) stream.frames None marks
