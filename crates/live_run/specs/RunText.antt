-- The text that a live run writes.
use Rattle.std.specs.Prelude.{◌≡◌, false, Bool, ℕ, List, [], Option}
use Rattle.std.specs.Io.KnownBytes.{Appends}
use Rattle.studio_config.specs.Studio.{Studio}
use Rattle.studio_run.specs.Buffer.{BreaksOff}
use Rattle.studio_io.specs.declared.report.WorkReport.{WorkReport}
use Rattle.live_run.specs.Report.{report_text}
use Rattle.live_run.specs.RunResult.{IsRunOf}
use Rattle.live_run.specs.declared.fault.LiveFault.{LiveFault}
use Rattle.live_run.specs.declared.fault.LiveFault.TheVariants.{Memory, Socket, Latencies, Page, Thread, OutputExists, Output, Unsettled, Write}

-- the report of a run was written, settled or not
pub record WritesRun (one_thread controlled : Bool) (studio : Studio) (settled : Bool) (written written_then : Option (List ℕ)) : Type 0 where
  pub report : WorkReport
  pub is : IsRunOf one_thread controlled studio report
  pub answer : report.settled ≡ settled
  pub wrote : Appends written written_then (report_text report)

-- a prefix of it was written, and not all
pub record BreaksOffRun (one_thread controlled : Bool) (studio : Studio) (written written_then : Option (List ℕ)) : Type 0 where
  pub report : WorkReport
  pub is : IsRunOf one_thread controlled studio report
  pub part : BreaksOff written [] written_then (report_text report)

-- the text that was written before each fault: none, except if the run was not settled or a write failed
abbrev pub FailsRun : Bool → Bool → Studio → Option (List ℕ) → Option (List ℕ) → LiveFault → Type 0
FailsRun one_thread controlled studio written written_then Memory = written_then ≡ written
FailsRun one_thread controlled studio written written_then Socket = written_then ≡ written
FailsRun one_thread controlled studio written written_then Latencies = written_then ≡ written
FailsRun one_thread controlled studio written written_then Page = written_then ≡ written
FailsRun one_thread controlled studio written written_then (OutputExists kind) = written_then ≡ written
FailsRun one_thread controlled studio written written_then (Output kind) = written_then ≡ written
FailsRun one_thread controlled studio written written_then Thread = written_then ≡ written
FailsRun one_thread controlled studio written written_then Unsettled = WritesRun one_thread controlled studio false written written_then
FailsRun one_thread controlled studio written written_then Write = BreaksOffRun one_thread controlled studio written written_then
