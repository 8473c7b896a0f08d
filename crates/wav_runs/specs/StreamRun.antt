-- The listing of a trace and a stream's WAV file, and the reasons why they may not be written.
use Rattle.std.specs.Prelude.{◌≡◌, ◌<◌, ℕ, List, [], Option, Some, None, Ok, slice_get}
use Rattle.std.specs.Io.KnownBytes.{Appends, Consumes, IsAtEnd}
use Rattle.rtp_stream.specs.declared.stream_spec.Stream.{Stream as AStream}
use Rattle.studio_config.specs.Studio.{Studio}
use Rattle.studio_session.specs.Event.{TraceEvent}
use Rattle.studio_session.specs.Fault.{session_fault_of}
use Rattle.studio_session.specs.Play.{stream_marks}
use Rattle.studio_run.specs.Trace.{trace_events}
use Rattle.studio_run.specs.Listing.{listing_text}
use Rattle.studio_run.specs.Play.{FailsOf, FailsWriting, IsListing}
use Rattle.wav_file.specs.File.{Becomes, Holds, wav_octets}
use Rattle.wav_runs.specs.declared.fault.StreamWavFault.{StreamWavFault}
use Rattle.wav_runs.specs.declared.fault.StreamWavFault.TheVariants.{Unknown, Channels}
use Rattle.wav_runs.specs.declared.fault.WavRunFault.{WavRunFault}
use Rattle.wav_runs.specs.declared.fault.WavRunFault.TheVariants.{Play, Stream, File}
use Rattle.wav_runs.specs.StreamSamples.{stream_format, stream_samples}

-- the file of a stream's marks: their samples, and silence for lost packets and for times without a slot
abbrev pub stream_file : Studio → List TraceEvent → AStream → ℕ → List ℕ
stream_file studio events stream number = wav_octets (stream_format stream) (stream_samples stream (stream_marks stream number studio.open_at events))

-- the listing of events was written, and a file that was created empty became the stream's file
pub record ListsAndRecords (studio : Studio) (events : List TraceEvent) (stream : AStream) (number : ℕ) (written written_then made_then : Option (List ℕ)) : Type 0 where
  pub listed : Appends written written_then (listing_text studio events)
  pub made : Option (List ℕ)
  pub empty : Holds made []
  pub file : Becomes made made_then (stream_file studio events stream number)

-- the rest of an input is a trace, whose listing was written together with the stream's file
pub record ListsAndRecordsTextOf (studio : Studio) (number : ℕ) (left left_then written written_then made_then : Option (List ℕ)) : Type 0 where
  pub trace : List ℕ
  pub read : Consumes left left_then trace
  pub end : IsAtEnd left_then
  pub events : List TraceEvent
  pub said : trace_events trace ≡ Ok events
  pub runs : session_fault_of studio events ≡ None
  pub stream : AStream
  pub is : slice_get studio.streams number ≡ Some stream
  pub writes : ListsAndRecords studio events stream number written written_then made_then

-- what was written of these events before a fault: an allocation failed, the listing broke off, or the file failed, and
-- then nothing was listed
abbrev pub FailsBoth : Studio → List TraceEvent → Option (List ℕ) → Option (List ℕ) → WavRunFault → Type 0
FailsBoth studio events written written_then (Play fault) = FailsWriting studio IsListing events written written_then fault
FailsBoth studio events written written_then (Stream fault) = ⊥
FailsBoth studio events written written_then (File fault) = written_then ≡ written

-- the reason why a stream has no file: the studio has no stream with this number, or the stream has more than 8
-- channels
abbrev pub IsUnfit : Studio → ℕ → StreamWavFault → Type 0
IsUnfit studio number Unknown = slice_get studio.streams number ≡ None
IsUnfit studio number Channels = (stream : AStream) × (slice_get studio.streams number ≡ Some stream) × (8 < stream.channels)

-- what was read and written of an input before a fault: nothing if the stream can have no file; the same as for the
-- listing alone; or the file failed, and then nothing was listed
abbrev pub FailsListing : Studio → ℕ → Option (List ℕ) → Option (List ℕ) → Option (List ℕ) → Option (List ℕ) → WavRunFault → Type 0
FailsListing studio number left left_then written written_then (Play fault) = FailsOf studio IsListing left left_then written written_then fault
FailsListing studio number left left_then written written_then (Stream fault) = IsUnfit studio number fault × (left_then ≡ left) × (written_then ≡ written)
FailsListing studio number left left_then written written_then (File fault) = written_then ≡ written
