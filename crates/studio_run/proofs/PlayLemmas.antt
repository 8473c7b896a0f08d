-- Why the text of a trace is not written.
use Rattle.std.proofs.Common.{◌≡◌, inl, inr, ◌<◌, ℕ, List, Option, None, Result, Ok, Err, true, nat_lt, length, if◌then◌else◌, refl, sym, ap, subst, arith}
use Rattle.std.specs.Prelude.{◌⊎◌, IfErr, IsErrAnd}
use Rattle.std.specs.Io.KnownBytes.{Consumes, IsAtEnd}
use Rattle.std.proofs.lemmas.Bool.Decides.{nat_tests}
use Rattle.studio_config.specs.Studio.{Studio}
use Rattle.studio_session.specs.Event.{TraceEvent}
use Rattle.studio_session.specs.Fault.{session_fault_of}
use Rattle.studio_run.specs.Trace.{BeginsWithEvents, fault_in, lines_of, lines_said, trace_events}
use Rattle.studio_run.specs.Play.{FailsOf, FailsOn, FailsWriting, StopsAt, StopsReading, play_fault}
use Rattle.studio_run.proofs.WantLemmas.{IsFaultOfText, IsOfText, of_trace}
use Rattle.studio_run.specs.declared.trace.fault.TraceFault.{TraceFault}
use Rattle.studio_run.specs.declared.trace.fault.TraceFaultKind.{TraceFaultKind}
use Rattle.studio_run.specs.declared.trace.fault.TraceFaultKind.TheVariants.{TooLong, Cut, Word, Fields, Number, Hex, TooMany, Memory as NoMemory}
use Rattle.studio_run.specs.declared.player.PlayFault.{PlayFault}
use Rattle.studio_run.specs.declared.player.PlayFault.TheVariants.{Read, Memory, Trace, Run, Write}

module _ {T : Type 0} where
  -- the fault that is returned is the one that was found
  pub told : (P : PlayFault → Type 0) (fault : PlayFault) (r : Result T PlayFault) → IsErrAnd r (λ answer. answer ≡ fault) → P fault → IfErr r P
  told P fault (Ok it) is holds = absurd is
  told P fault (Err answer) is holds = subst P (sym is) holds

stops_by_kind : (studio : Studio) (trace : List ℕ) (fault : TraceFault) (kind : TraceFaultKind) → IsOfText kind → trace_events trace ≡ Err fault → StopsAt studio trace (play_fault kind fault)
stops_by_kind studio trace fault TooLong of is = is
stops_by_kind studio trace fault Cut of is = is
stops_by_kind studio trace fault Word of is = is
stops_by_kind studio trace fault Fields of is = is
stops_by_kind studio trace fault Number of is = is
stops_by_kind studio trace fault Hex of is = is
stops_by_kind studio trace fault TooMany of is = is
stops_by_kind studio trace fault NoMemory of is = absurd of

-- a trace whose events could not be read into memory
pub stops_at_trace : (studio : Studio) (trace : List ℕ) (fault : TraceFault) → ((fault ≡ fault_in 0 NoMemory) × BeginsWithEvents trace) ⊎ (trace_events trace ≡ Err fault)
    → StopsAt studio trace (play_fault fault.kind fault)
stops_at_trace studio trace fault (inl want) = subst (λ (f : TraceFault). StopsAt studio trace (play_fault f.kind f)) (sym want.0) want.1
stops_at_trace studio trace fault (inr is) = stops_by_kind studio trace fault fault.kind (subst (λ r. IfErr r IsFaultOfText) is (of_trace trace)) is

-- a fault before anything was written
pub fails_before : (studio : Studio) (IsText : Studio → List TraceEvent → List ℕ → Type 0) (trace : List ℕ) (a : Option (List ℕ)) (fault : PlayFault) → StopsAt studio trace fault → FailsOn studio IsText trace a a fault
fails_before studio IsText trace a Memory stops = refl
fails_before studio IsText trace a (Trace fault) stops = (stops, refl)
fails_before studio IsText trace a (Run fault) stops = (stops, refl)
fails_before studio IsText trace a Read stops = absurd stops
fails_before studio IsText trace a Write stops = absurd stops

-- a fault of writing, after the events were found to have no fault
pub fails_later : (studio : Studio) (IsText : Studio → List TraceEvent → List ℕ → Type 0) (trace : List ℕ) (events : List TraceEvent) (a b : Option (List ℕ)) (fault : PlayFault)
    → trace_events trace ≡ Ok events → session_fault_of studio events ≡ None → FailsWriting studio IsText events a b fault → FailsOn studio IsText trace a b fault
fails_later studio IsText trace events a b Memory said runs fails = fails
fails_later studio IsText trace events a b Write said runs fails = record { events = events; said = said; runs = runs; part = fails }
fails_later studio IsText trace events a b Read said runs fails = absurd fails
fails_later studio IsText trace events a b (Trace fault) said runs fails = absurd fails
fails_later studio IsText trace events a b (Run fault) said runs fails = absurd fails

-- a fault while the input was read
pub fails_reading : (studio : Studio) (IsText : Studio → List TraceEvent → List ℕ → Type 0) (left left_then a : Option (List ℕ)) (fault : PlayFault) → StopsReading left left_then fault
    → FailsOf studio IsText left left_then a a fault
fails_reading studio IsText left left_then a Read stops = refl
fails_reading studio IsText left left_then a Memory stops = refl
fails_reading studio IsText left left_then a (Trace fault) stops = (stops.0, stops.1, (stops.2, refl))
fails_reading studio IsText left left_then a (Run fault) stops = absurd stops
fails_reading studio IsText left left_then a Write stops = absurd stops

-- a fault after the input was read to its end
pub fails_read : (studio : Studio) (IsText : Studio → List TraceEvent → List ℕ → Type 0) (left left_then : Option (List ℕ)) (trace : List ℕ) (a b : Option (List ℕ)) (fault : PlayFault)
    → Consumes left left_then trace → IsAtEnd left_then → FailsOn studio IsText trace a b fault → FailsOf studio IsText left left_then a b fault
fails_read studio IsText left left_then trace a b Read read end fails = absurd fails
fails_read studio IsText left left_then trace a b Memory read end fails = fails
fails_read studio IsText left left_then trace a b (Trace fault) read end fails = (trace, (read, inl end), fails)
fails_read studio IsText left left_then trace a b (Run fault) read end fails = (trace, read, end, fails)
fails_read studio IsText left left_then trace a b Write read end fails = (trace, read, end, fails)

-- more octets came than a trace may have
pub too_many : (octets : List ℕ) → 67108864 < length octets → trace_events octets ≡ Err (fault_in 0 TooMany)
too_many octets more =
    let test : nat_lt 67108864 (length octets) ≡ true = grind (arith, nat_tests, more) in
    ap (λ b. if b then Err (fault_in 0 TooMany) else lines_said 1 0 (lines_of octets)) test
