-- The text that a live run wrote.
use Rattle.std.proofs.Common.{◌≡◌, refl, sym, subst, Bool, true, false, ℕ, ℤ, List, [], Option, None, Result, Ok, Err}
use Rattle.std.specs.Prelude.{IfErr, IfOk, IsErrAnd}
use Rattle.studio_config.specs.Studio.{Studio}
use Rattle.studio_rings.proofs.RunLemmas.{settled-unchanged as rings_unchanged}
use Rattle.engine_run.proofs.GainRequestLemmas.{settled-unchanged as engine_unchanged}
use Rattle.studio_io.specs.declared.report.WorkReport.{WorkReport}
use Rattle.live_run.specs.RunText.{BreaksOffRun, FailsRun}
use Rattle.live_run.specs.RunResult.{IsEarly, IsRunOf, IsRunWith, IsSettledIf, IsSettledIn, IsSettledWith}
use Rattle.live_run.specs.declared.fault.LiveFault.{LiveFault}
use Rattle.live_run.specs.declared.run_end.RunEnd.{RunEnd}
use Rattle.live_run.specs.declared.fault.LiveFault.TheVariants.{Memory, Socket, Latencies, Page, Thread, OutputExists, Output, Unsettled, Write}

early_writes_nothing : (one controlled : Bool) (studio : Studio) (written : Option (List ℕ)) (fault : LiveFault) → IsEarly fault → FailsRun one controlled studio written written fault
early_writes_nothing one controlled studio written Memory early = refl
early_writes_nothing one controlled studio written Socket early = refl
early_writes_nothing one controlled studio written Latencies early = refl
early_writes_nothing one controlled studio written Page early = refl
early_writes_nothing one controlled studio written (OutputExists kind) early = refl
early_writes_nothing one controlled studio written (Output kind) early = refl
early_writes_nothing one controlled studio written Thread early = refl
early_writes_nothing one controlled studio written Unsettled early = absurd early
early_writes_nothing one controlled studio written Write early = absurd early

module _ {T : Type 0} where
  -- with a fault before the report nothing was written
  pub wrote_nothing : (one controlled : Bool) (studio : Studio) (written : Option (List ℕ)) (r : Result T LiveFault) → IsErrAnd r IsEarly → IfErr r (FailsRun one controlled studio written written)
  wrote_nothing one controlled studio written (Ok it) early = absurd early
  wrote_nothing one controlled studio written (Err fault) early = early_writes_nothing one controlled studio written fault early

  -- a fault before the run began is an early one
  pub is_early : (r : Result T LiveFault) → IsErrAnd r IsEarly → IfErr r IsEarly
  is_early (Ok it) early = absurd early
  is_early (Err fault) early = early

  -- a write that failed broke off a report
  pub broke_off : (one controlled : Bool) (studio : Studio) (written written_then : Option (List ℕ)) (r : Result T LiveFault) → IsErrAnd r (λ fault. fault ≡ Write)
      → BreaksOffRun one controlled studio written written_then → IfErr r (FailsRun one controlled studio written written_then)
  broke_off one controlled studio written written_then (Ok it) is breaks = absurd is
  broke_off one controlled studio written written_then (Err fault) is breaks = subst (FailsRun one controlled studio written written_then) (sym is) breaks

-- what a run took is what it took since nothing was taken
from_none : (one : Bool) (studio : Studio) (report : WorkReport) (first last : List (ℤ × List ℤ)) → IsSettledWith one studio report first last → IsSettledIf one true studio report
from_none false studio report first last (places, answers, clocks, run) = (run.changes, (places, answers, clocks, record { changes = run.changes; taken = refl; run = run.run }))
from_none true studio report first last (answers, clock, feeds, run) = (run.changes, (answers, clock, feeds, record { changes = run.changes; taken = refl; run = run.run }))

-- a run that took nothing is one of its studio
without_change : (one : Bool) (studio : Studio) (report : WorkReport) (taken : List (ℤ × List ℤ)) → IsSettledWith one studio report taken taken → IsSettledIn one studio report
without_change false studio report taken (places, answers, clocks, run) = (places, answers, clocks, rings_unchanged studio places answers clocks report None None taken run)
without_change true studio report taken (answers, clock, feeds, run) = (answers, clock, feeds, engine_unchanged studio answers clock report None None None None taken run)

module _ {G : Type 0} (taken : G → List (ℤ × List ℤ)) where
  -- a run whose gains can be changed took some changes
  pub controlled : (one : Bool) (studio : Studio) (first : List (ℤ × List ℤ)) (r : Result RunEnd LiveFault) → IfOk r (λ end. (after : G) × IsRunWith one studio end.report first (taken after))
      → IfOk r (λ end. IsRunOf one true studio end.report)
  controlled one studio first (Ok end) run = record {
    balance = run.1.balance;
    settled = λ settled. from_none one studio end.report first (taken run.0) (run.1.settled settled);
  }
  controlled one studio first (Err fault) run = run

  -- and took none if the source takes none
  pub uncontrolled : (one : Bool) (studio : Studio) → ((after : G) → taken after ≡ []) → (r : Result RunEnd LiveFault) → IfOk r (λ end. (after : G) × IsRunWith one studio end.report [] (taken after))
      → IfOk r (λ end. IsRunOf one false studio end.report)
  uncontrolled one studio none (Ok end) run = record {
    balance = run.1.balance;
    settled = λ settled. without_change one studio end.report [] (subst (λ last. IsSettledWith one studio end.report [] last) (none run.0) (run.1.settled settled));
  }
  uncontrolled one studio none (Err fault) run = run
