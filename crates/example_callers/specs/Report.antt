-- The report of a trace in memory.
use Rattle.std.specs.Prelude.{◌≡◌, ℕ, List, Some, None, Ok, Err}
use Rattle.studio_config.specs.Studio.{Studio}
use Rattle.studio_session.specs.Event.{TraceEvent}
use Rattle.studio_session.specs.Fault.{session_fault_of}
use Rattle.studio_run.specs.StudioReport.{IsReport}
use Rattle.studio_run.specs.Trace.{trace_events}
use Rattle.studio_run.specs.declared.player.PlayFault.{PlayFault}
use Rattle.studio_run.specs.declared.player.PlayFault.TheVariants.{Read, Memory, Trace, Run, Write}

-- the text is the report of the trace's events, which have no fault
pub record IsReportOf (studio : Studio) (trace text : List ℕ) : Type 0 where
  pub events : List TraceEvent
  pub said : trace_events trace ≡ Ok events
  pub runs : session_fault_of studio events ≡ None
  pub report : IsReport studio events text

-- the meaning of a fault: it is that of the trace, or of one of its events
abbrev pub IsFaultOf : Studio → List ℕ → PlayFault → Type 0
IsFaultOf studio trace Read = Unit {0}
IsFaultOf studio trace Memory = Unit {0}
IsFaultOf studio trace (Trace fault) = trace_events trace ≡ Err fault
IsFaultOf studio trace (Run fault) = (events : List TraceEvent) × (trace_events trace ≡ Ok events) × (session_fault_of studio events ≡ Some fault)
IsFaultOf studio trace Write = Unit {0}
