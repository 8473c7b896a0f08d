-- The chart of a trace, and the reasons why there may be none.
use Rattle.std.specs.Prelude.{◌≡◌, ℕ, List, Option, None, Ok, ⊤}
use Rattle.std.specs.Io.KnownBytes.{Appends, Consumes, IsAtEnd}
use Rattle.studio_config.specs.Studio.{Studio}
use Rattle.studio_session.specs.Event.{TraceEvent}
use Rattle.studio_session.specs.Fault.{session_fault_of}
use Rattle.studio_run.specs.Trace.{trace_events}
use Rattle.studio_run.specs.Play.{FailsOf}
use Rattle.studio_run.specs.StudioReport.{IsReport}
use Rattle.studio_run.specs.declared.player.PlayFault.{PlayFault}
use Rattle.studio_run.specs.declared.player.PlayFault.TheVariants.{Read, Memory, Trace, Run, Write}

-- the rest of an input is a trace with no fault, and one text was written
pub record Draws (studio : Studio) (left left_then written written_then : Option (List ℕ)) : Type 0 where
  pub trace : List ℕ
  pub read : Consumes left left_then trace
  pub end : IsAtEnd left_then
  pub events : List TraceEvent
  pub said : trace_events trace ≡ Ok events
  pub runs : session_fault_of studio events ≡ None
  pub svg : List ℕ
  pub wrote : Appends written written_then svg

-- what was written before a fault: with a fault before the first write, the same as for the report
abbrev pub FailsDrawing : Studio → Option (List ℕ) → Option (List ℕ) → Option (List ℕ) → Option (List ℕ) → PlayFault → Type 0
FailsDrawing studio left left_then written written_then Read = written_then ≡ written
FailsDrawing studio left left_then written written_then Memory = written_then ≡ written
FailsDrawing studio left left_then written written_then (Trace fault) = FailsOf studio IsReport left left_then written written_then (Trace fault)
FailsDrawing studio left left_then written written_then (Run fault) = FailsOf studio IsReport left left_then written written_then (Run fault)
FailsDrawing studio left left_then written written_then Write = ⊤
