-- The report of a trace and its WAV file, and the reasons why they may not be written.
use Rattle.std.specs.Prelude.{◌≡◌, ℕ, List, [], ◌++◌, take, Option, None, Ok, ⊤}
use Rattle.std.specs.Io.KnownBytes.{Appends, Consumes, IsAtEnd}
use Rattle.studio_config.specs.Studio.{Studio}
use Rattle.studio_session.specs.Event.{TraceEvent}
use Rattle.studio_session.specs.Fault.{session_fault_of}
use Rattle.studio_run.specs.Trace.{trace_events}
use Rattle.studio_run.specs.Play.{FailsOf}
use Rattle.studio_run.specs.StudioReport.{IsReport}
use Rattle.studio_run.specs.declared.player.PlayFault.TheVariants.{Read, Memory, Trace, Run, Write}
use Rattle.wav_file.specs.File.{Holds}
use Rattle.wav_runs.specs.declared.fault.WavRunFault.{WavRunFault}
use Rattle.wav_runs.specs.declared.fault.WavRunFault.TheVariants.{Play, Stream, File}
use Rattle.wav_file.specs.MixSamples.{output_format}
use Rattle.wav_runs.specs.MixWav.{Records}

-- the rest of an input is the trace whose report was written, and a file that was created empty became the WAV file of
-- its datagrams' samples
pub record RecordsTextOf (studio : Studio) (left left_then written written_then made_then : Option (List ℕ)) : Type 0 where
  pub trace : List ℕ
  pub read : Consumes left left_then trace
  pub end : IsAtEnd left_then
  pub events : List TraceEvent
  pub said : trace_events trace ≡ Ok events
  pub runs : session_fault_of studio events ≡ None
  pub made : Option (List ℕ)
  pub empty : Holds made []
  pub records : Records studio events (output_format studio.output) written written_then made made_then

-- a prefix of what was held and these octets was written, or all
abbrev pub WritesFront : Option (List ℕ) → List ℕ → Option (List ℕ) → List ℕ → Type 0
WritesFront written held written_then octets = (count : ℕ) × Appends written written_then (take count (held ++ octets))

-- the fault is one of the writers
abbrev pub IsOfWriters : WavRunFault → Type 0
IsOfWriters (Play Read) = ⊥
IsOfWriters (Play Memory) = ⊥
IsOfWriters (Play (Trace fault)) = ⊥
IsOfWriters (Play (Run fault)) = ⊥
IsOfWriters (Play Write) = ⊤
IsOfWriters (Stream fault) = ⊥
IsOfWriters (File fault) = ⊤

-- the rest of an input is a trace whose events run, and a prefix of their report was written, or all of it
pub record BreaksOffRecording (studio : Studio) (left left_then written written_then : Option (List ℕ)) : Type 0 where
  pub trace : List ℕ
  pub read : Consumes left left_then trace
  pub end : IsAtEnd left_then
  pub events : List TraceEvent
  pub said : trace_events trace ≡ Ok events
  pub runs : session_fault_of studio events ≡ None
  pub part : (report : List ℕ) → IsReport studio events report → WritesFront written [] written_then report

-- what was written before a fault: with a fault before the first write, the same as for the report alone
abbrev pub FailsRecording : Studio → Option (List ℕ) → Option (List ℕ) → Option (List ℕ) → Option (List ℕ) → WavRunFault → Type 0
FailsRecording studio left left_then written written_then (Play Read) = written_then ≡ written
FailsRecording studio left left_then written written_then (Play Memory) = written_then ≡ written
FailsRecording studio left left_then written written_then (Play (Trace fault)) = FailsOf studio IsReport left left_then written written_then (Trace fault)
FailsRecording studio left left_then written written_then (Play (Run fault)) = FailsOf studio IsReport left left_then written written_then (Run fault)
FailsRecording studio left left_then written written_then (Play Write) = BreaksOffRecording studio left left_then written written_then
FailsRecording studio left left_then written written_then (Stream fault) = ⊥
FailsRecording studio left left_then written written_then (File fault) = BreaksOffRecording studio left left_then written written_then
