-- The text that is written of a trace, and why there may be none.
use Rattle.std.specs.Prelude.{◌≡◌, ◌<◌, ◌⊎◌, ℕ, List, [], length, Option, Some, None, Ok, Err}
use Rattle.std.specs.Io.KnownBytes.{Appends, Consumes, IsAtEnd}
use Rattle.studio_config.specs.Studio.{Studio}
use Rattle.studio_session.specs.Event.{TraceEvent}
use Rattle.studio_session.specs.Fault.{session_fault_of}
use Rattle.studio_run.specs.Buffer.{BreaksOff}
use Rattle.studio_run.specs.Trace.{BeginsWithEvents, trace_events}
use Rattle.studio_run.specs.Listing.{listing_text}
use Rattle.studio_run.specs.declared.trace.fault.TraceFault.{TraceFault}
use Rattle.studio_run.specs.declared.trace.fault.TraceFaultKind.{TraceFaultKind}
use Rattle.studio_run.specs.declared.trace.fault.TraceFaultKind.TheVariants.{TooLong, Cut, Word, Fields, Number, Hex, TooMany, Memory as NoMemory}
use Rattle.studio_run.specs.declared.player.PlayFault.{PlayFault}
use Rattle.studio_run.specs.declared.player.PlayFault.TheVariants.{Read, Memory, Trace, Run, Write}

-- the listing of events
abbrev pub IsListing : Studio → List TraceEvent → List ℕ → Type 0
IsListing studio events text = text ≡ listing_text studio events

-- the text of these events was written
pub record WritesEvents (studio : Studio) (IsText : Studio → List TraceEvent → List ℕ → Type 0) (events : List TraceEvent) (written written_then : Option (List ℕ)) : Type 0 where
  pub text : List ℕ
  pub is : IsText studio events text
  pub wrote : Appends written written_then text

-- why the text of these events was not written: an allocation failed before, or a write failed after a prefix
abbrev pub FailsWriting : Studio → (Studio → List TraceEvent → List ℕ → Type 0) → List TraceEvent → Option (List ℕ) → Option (List ℕ) → PlayFault → Type 0
FailsWriting studio IsText events written written_then Read = ⊥
FailsWriting studio IsText events written written_then Memory = written_then ≡ written
FailsWriting studio IsText events written written_then (Trace fault) = ⊥
FailsWriting studio IsText events written written_then (Run fault) = ⊥
FailsWriting studio IsText events written written_then Write = (text : List ℕ) → IsText studio events text → BreaksOff written [] written_then text

-- a trace has no events that can be run: the trace has a fault, one of its events has, or an allocation failed for the
-- events with which it begins
abbrev pub StopsAt : Studio → List ℕ → PlayFault → Type 0
StopsAt studio trace Read = ⊥
StopsAt studio trace Memory = BeginsWithEvents trace
StopsAt studio trace (Trace fault) = trace_events trace ≡ Err fault
StopsAt studio trace (Run fault) = (events : List TraceEvent) × (trace_events trace ≡ Ok events) × (session_fault_of studio events ≡ Some fault)
StopsAt studio trace Write = ⊥

-- the fault of a trace, by its kind
abbrev pub play_fault : TraceFaultKind → TraceFault → PlayFault
play_fault TooLong fault = Trace fault
play_fault Cut fault = Trace fault
play_fault Word fault = Trace fault
play_fault Fields fault = Trace fault
play_fault Number fault = Trace fault
play_fault Hex fault = Trace fault
play_fault TooMany fault = Trace fault
play_fault NoMemory fault = Memory

-- the trace's events have no fault, and their text was written
pub record WritesText (studio : Studio) (IsText : Studio → List TraceEvent → List ℕ → Type 0) (trace : List ℕ) (written written_then : Option (List ℕ)) : Type 0 where
  pub events : List TraceEvent
  pub said : trace_events trace ≡ Ok events
  pub runs : session_fault_of studio events ≡ None
  pub writes : WritesEvents studio IsText events written written_then

-- the trace's events have no fault, and only a prefix of their text was written
pub record BreaksOffText (studio : Studio) (IsText : Studio → List TraceEvent → List ℕ → Type 0) (trace : List ℕ) (written written_then : Option (List ℕ)) : Type 0 where
  pub events : List TraceEvent
  pub said : trace_events trace ≡ Ok events
  pub runs : session_fault_of studio events ≡ None
  pub part : (text : List ℕ) → IsText studio events text → BreaksOff written [] written_then text

-- why the text of a trace was not written; nothing at all was written unless a write failed
abbrev pub FailsOn : Studio → (Studio → List TraceEvent → List ℕ → Type 0) → List ℕ → Option (List ℕ) → Option (List ℕ) → PlayFault → Type 0
FailsOn studio IsText trace written written_then Read = ⊥
FailsOn studio IsText trace written written_then Memory = written_then ≡ written
FailsOn studio IsText trace written written_then (Trace fault) = (trace_events trace ≡ Err fault) × (written_then ≡ written)
FailsOn studio IsText trace written written_then (Run fault) =
    ((events : List TraceEvent) × (trace_events trace ≡ Ok events) × (session_fault_of studio events ≡ Some fault)) × (written_then ≡ written)
FailsOn studio IsText trace written written_then Write = BreaksOffText studio IsText trace written written_then

-- these octets were read from an input, which is then at its end; or they are more than a trace may have
abbrev pub ReadsToEnd : Option (List ℕ) → Option (List ℕ) → List ℕ → Type 0
ReadsToEnd left left_then trace = Consumes left left_then trace × (IsAtEnd left_then ⊎ (67108864 < length trace))

-- why an input is not a trace: a read failed, an allocation failed, or the octets that were read have a trace's fault
abbrev pub StopsReading : Option (List ℕ) → Option (List ℕ) → PlayFault → Type 0
StopsReading left left_then Read = Unit {0}
StopsReading left left_then Memory = Unit {0}
StopsReading left left_then (Trace fault) = (trace : List ℕ) × ReadsToEnd left left_then trace × (trace_events trace ≡ Err fault)
StopsReading left left_then (Run fault) = ⊥
StopsReading left left_then Write = ⊥

-- all that was left of an input is the trace whose text was written
pub record WritesTextOf (studio : Studio) (IsText : Studio → List TraceEvent → List ℕ → Type 0) (left left_then written written_then : Option (List ℕ)) : Type 0 where
  pub trace : List ℕ
  pub read : Consumes left left_then trace
  pub end : IsAtEnd left_then
  pub writes : WritesText studio IsText trace written written_then

-- why the text of an input was not written; nothing at all was written unless a write failed
abbrev pub FailsOf : Studio → (Studio → List TraceEvent → List ℕ → Type 0) → Option (List ℕ) → Option (List ℕ) → Option (List ℕ) → Option (List ℕ) → PlayFault → Type 0
FailsOf studio IsText left left_then written written_then Read = written_then ≡ written
FailsOf studio IsText left left_then written written_then Memory = written_then ≡ written
FailsOf studio IsText left left_then written written_then (Trace fault) =
    (trace : List ℕ) × ReadsToEnd left left_then trace × FailsOn studio IsText trace written written_then (Trace fault)
FailsOf studio IsText left left_then written written_then (Run fault) =
    (trace : List ℕ) × Consumes left left_then trace × IsAtEnd left_then × FailsOn studio IsText trace written written_then (Run fault)
FailsOf studio IsText left left_then written written_then Write =
    (trace : List ℕ) × Consumes left left_then trace × IsAtEnd left_then × FailsOn studio IsText trace written written_then Write
